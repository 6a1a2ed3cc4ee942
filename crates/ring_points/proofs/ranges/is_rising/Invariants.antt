use Rattle.std.proofs.Common.{◌≡◌, drop}
use Rattle.ring_points.specs.Ranges.{rises_from}
use Rattle.ring_points.proofs.ranges.is_rising.Given as goal

abbrev pub invariant-loop-pair : goal.invariant-loop-pair
invariant-loop-pair l = rises_from 0 l.pairs ≡ rises_from l.least (drop l.pair-index l.pairs)
