use Rattle.std.proofs.Common.{◌≡◌, take}
use Rattle.ring_points.proofs.ranges.RangeSet.from_pairs.Given as goal

abbrev pub invariant-loop-pair : goal.invariant-loop-pair
invariant-loop-pair l = l.intervals.items ≡ take l.pair-index l.pairs
