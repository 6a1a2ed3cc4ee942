use Rattle.std.proofs.Common.{◌≡◌, ◌+◌, ◌≤◌, ◌++◌, length, map, vec_capacity, vec_len}
use Rattle.unit_replica.specs.Starts.{replicas_in}
use Rattle.unit_replica.proofs.boot.give_back.Given as goal

-- what was given back, and what is still to be
abbrev pub invariant-loop-state : goal.invariant-loop-state
invariant-loop-state l = record {
  so_far : l.replicas.items ++ map (λ s. s.replica) l.state-iterator ≡ l.initial.replicas.items ++ replicas_in l.fn.map.entries;
  room : vec_len l.replicas + length l.state-iterator ≤ vec_capacity l.replicas;
}
