use Rattle.std.proofs.Common.{◌≡◌, ◌++◌, drop}
use Rattle.ring_points.specs.Sets.{cut_all}
use Rattle.point_places.proofs.unheld.cut.Given as goal

abbrev pub invariant-loop-i : goal.invariant-loop-i
invariant-loop-i l = l.left.items ++ cut_all (drop l.i-index l.intervals) l.j ≡ cut_all l.intervals l.j
