use Rattle.std.proofs.Common.{◌≡◌, take}
use Rattle.failover_units.specs.Units.{among}
use Rattle.failover_units.proofs.range.partitions_in.Given as goal

abbrev pub invariant-loop-i : goal.invariant-loop-i
invariant-loop-i l = l.found.items ≡ among l.range (take l.i l.partitions)
