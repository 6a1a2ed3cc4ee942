use Rattle.ring_points.proofs.Joins.{in_ranges-union_of}
use Rattle.token_core.proofs.laws.a_gain_has_both.Goals as goal

pub returns : goal.returns
returns c = λ t part p h k. in_ranges-union_of p 0 0 t.ranges part h.ranges k
