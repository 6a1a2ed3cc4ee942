use Rattle.std.proofs.Common.{◌≡◌, ◌++◌}
use Rattle.failover_units.specs.Units.{known_partitions}
use Rattle.failover_units.proofs.units.known_in.Given as goal

abbrev pub invariant-loop-partition : goal.invariant-loop-partition
invariant-loop-partition l = l.known.items ++ known_partitions l.partition-iterator ≡ known_partitions l.table.entries
