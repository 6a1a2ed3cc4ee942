use Rattle.std.proofs.Common.{◌≡◌, ◌++◌, map}
use Rattle.unit_replica.proofs.replica_states.partitions_of.Given as goal

-- those found and those to come are all
abbrev pub invariant-loop-partition : goal.invariant-loop-partition
invariant-loop-partition l = l.found.items ++ l.partition-iterator ≡ map (λ e. e.0) l.states.entries
