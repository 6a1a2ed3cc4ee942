use Rattle.std.proofs.Common.{◌≡◌, ◌≤◌, ◌+◌, ◌*◌, ◌++◌, [], length, flat_map, vec_capacity}
use Rattle.fabric_terms.specs.Sent.{from_all}
use Rattle.unit_rules.specs.Deeds.{frames_of}
use Rattle.unit_rules.specs.Writes.{state_fired}
use Rattle.unit_replica.specs.Limits.{most_peers}
use Rattle.unit_replica.specs.Tables.{fired}
use Rattle.unit_replica.proofs.replica_states.ReplicaStates.fire.Given as goal

-- what was sent, and what is still to be sent
abbrev pub invariant-loop-state : goal.invariant-loop-state
invariant-loop-state l = record {
  so_far : l.frames.items ++ from_all l.from (frames_of (flat_map state_fired l.state-iterator)) ≡ l.initial.frames.items ++ from_all l.from (frames_of (fired l.self));
  few : length l.frames.items + most_peers * length l.state-iterator ≤ length l.initial.frames.items + most_peers * length l.self;
  room : vec_capacity l.frames ≡ vec_capacity l.initial.frames;
  clear : l.out ≡ [];
}
