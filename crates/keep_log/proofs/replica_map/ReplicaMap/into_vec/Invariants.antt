use Rattle.std.proofs.Common.{◌≡◌, ◌++◌}
use Rattle.std.specs.Map.{values_of}
use Rattle.keep_log.proofs.replica_map.ReplicaMap.into_vec.Given as goal

abbrev pub invariant-loop-replica : goal.invariant-loop-replica
invariant-loop-replica l = l.replicas.items ++ l.replica-iterator ≡ values_of l.fn.self
