use Rattle.std.proofs.Common.{◌≡◌, drop, take, IsTrue}
use Rattle.std.specs.List.{list_all}
use Rattle.ring_points.specs.Ranges.{is_proper}
use Rattle.point_places.specs.Order.{seen}
use Rattle.point_places.specs.Steps.{spans_of, less_held}
use Rattle.point_places.proofs.unheld.unheld.Given as goal

abbrev pub invariant-loop-holder : goal.invariant-loop-holder
invariant-loop-holder l =
    (less_held (seen l.place) (drop l.holder-index l.holders) l.left.items ≡ less_held (seen l.place) l.holders (spans_of (seen l.place) l.segments))
    × IsTrue (list_all (λ h. is_proper h.ranges) (take l.holder-index l.holders))
