use Rattle.std.proofs.Common.{◌≡◌, ◌++◌, drop, None}
use Rattle.point_places.specs.Steps.{tidied}
use Rattle.point_places.proofs.segments.tidied.Given as goal

abbrev pub invariant-loop-s : goal.invariant-loop-s
invariant-loop-s l = l.kept.items ++ tidied l.before (drop l.s-index l.segments) ≡ tidied None l.segments
