use Rattle.std.proofs.Common.{◌≡◌, ◌+◌, ◌≤◌, ◌++◌, length, vec_capacity, vec_len}
use Rattle.unit_replica.specs.Starts.{states_of}
use Rattle.unit_replica.proofs.boot.state_all.Given as goal

-- what is still to be put in, and what is
abbrev pub invariant-loop-replica : goal.invariant-loop-replica
invariant-loop-replica l = record {
  moved : states_of l.replicas.items ++ l.map.entries ≡ states_of l.initial.replicas.items ++ l.initial.map.entries;
  room : vec_len l.replicas + length l.map.entries ≤ vec_capacity l.replicas;
}

abbrev pub decreases-loop-replica : goal.decreases-loop-replica
decreases-loop-replica l = vec_len l.replicas
