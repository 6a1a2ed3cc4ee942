use Rattle.link_core.proofs.FrameTies.{frame_tie}
use Rattle.link_core.proofs.laws.a_frame_is_its_row.Goals as goal

pub returns : goal.returns
returns c = frame_tie
