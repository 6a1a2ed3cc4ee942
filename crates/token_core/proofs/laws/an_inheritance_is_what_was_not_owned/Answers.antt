use Rattle.std.proofs.Common.{Bool, not, ◌&&◌, ap, ◌∙◌}
use Rattle.ring_points.specs.Ranges.{in_ranges}
use Rattle.ring_points.specs.Sets.{union_of}
use Rattle.ring_points.proofs.Cuts.{in_ranges-minus_of}
use Rattle.ring_points.proofs.Joins.{in_ranges-union_of, rises_from-union_of}
use Rattle.token_core.proofs.laws.an_inheritance_is_what_was_not_owned.Goals as goal

pub returns : goal.returns
returns c = λ t held flight p h k l.
    in_ranges-minus_of p 0 0 (union_of held flight) t.ranges (rises_from-union_of 0 0 held flight k l) h.ranges
    ∙ ap (λ (b : Bool). b && not (in_ranges p t.ranges)) (in_ranges-union_of p 0 0 held flight k l)
