use Rattle.std.proofs.Common.{◌≡◌, ◌++◌, drop}
use Rattle.point_places.specs.Order.{seen}
use Rattle.point_places.specs.Steps.{spans_of}
use Rattle.point_places.proofs.unheld.spans.Given as goal

abbrev pub invariant-loop-i : goal.invariant-loop-i
invariant-loop-i l = l.spans.items ++ spans_of (seen l.place) (drop l.i l.segments) ≡ spans_of (seen l.place) l.segments
