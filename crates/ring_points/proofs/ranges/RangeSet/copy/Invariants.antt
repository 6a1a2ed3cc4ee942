use Rattle.std.proofs.Common.{◌≡◌, take}
use Rattle.ring_points.proofs.ranges.RangeSet.copy.Given as goal

abbrev pub invariant-loop-i : goal.invariant-loop-i
invariant-loop-i l = l.intervals.items ≡ take l.i-index l.i-items
