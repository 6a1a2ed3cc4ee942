use Rattle.std.proofs.Common.{◌≡◌, map, take}
use Rattle.failover_units.specs.Units.{point_of}
use Rattle.failover_units.proofs.range.points_of.Given as goal

abbrev pub invariant-loop-partition : goal.invariant-loop-partition
invariant-loop-partition l = l.points.items ≡ map point_of (take l.partition-index l.partitions)
