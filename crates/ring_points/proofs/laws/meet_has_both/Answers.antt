use Rattle.ring_points.proofs.Meets.{in_ranges-meet_of, rises_from-meet_of}
use Rattle.ring_points.proofs.laws.meet_has_both.Goals as goal

pub returns : goal.returns
returns c = λ is js h k. record { rises = rises_from-meet_of 0 0 is js h k; points = (λ p l. in_ranges-meet_of p is js) }
