use Rattle.ring_points.proofs.Cuts.{in_ranges-minus_of, rises_from-minus_of}
use Rattle.ring_points.proofs.laws.difference_has_the_first_alone.Goals as goal

pub returns : goal.returns
returns c = λ is js h k. record { rises = rises_from-minus_of 0 0 is js h k; points = (λ p l. in_ranges-minus_of p 0 0 is js h k) }
