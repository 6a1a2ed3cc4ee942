use Rattle.ring_safety.proofs.StrangeFrames.{strange_frames}
use Rattle.ring_safety.proofs.cluster.a_strange_frame_is_a_firing_or_nothing.Goals as goal

pub returns : goal.returns
returns g c = strange_frames g.A.Above.upper
