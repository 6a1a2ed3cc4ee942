use Rattle.ring_points.proofs.Joins.{in_ranges-union_of, rises_from-union_of}
use Rattle.ring_points.proofs.laws.union_has_either.Goals as goal

pub returns : goal.returns
returns c = λ is js h k. record { rises = rises_from-union_of 0 0 is js h k; points = (λ p l. in_ranges-union_of p 0 0 is js h k) }
