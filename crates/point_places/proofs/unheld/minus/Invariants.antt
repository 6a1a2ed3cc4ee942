use Rattle.std.proofs.Common.{◌≡◌, drop}
use Rattle.ring_points.specs.Sets.{minus_of}
use Rattle.point_places.proofs.unheld.minus.Given as goal

abbrev pub invariant-loop-j : goal.invariant-loop-j
invariant-loop-j l = minus_of l.left.items (drop l.j-index l.others) ≡ minus_of l.fn.intervals l.others
