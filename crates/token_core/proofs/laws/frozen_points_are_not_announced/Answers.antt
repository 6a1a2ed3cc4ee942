use Rattle.ring_points.proofs.Cuts.{in_ranges-minus_of}
use Rattle.token_core.specs.Tokens.{frozen_part}
use Rattle.token_core.proofs.laws.frozen_points_are_not_announced.Goals as goal

pub returns : goal.returns
returns c = λ t p h. in_ranges-minus_of p 0 0 t.ranges (frozen_part t.freeze) h.ranges h.part
