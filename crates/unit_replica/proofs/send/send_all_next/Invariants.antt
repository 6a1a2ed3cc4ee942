use Rattle.std.proofs.Common.{◌≡◌, ◌+◌, ◌≤◌, ◌++◌, drop, length, flat_map}
use Rattle.unit_rules.specs.Deeds.{frames_of}
use Rattle.unit_rules.specs.ReplicaStates.{entry_at}
use Rattle.unit_rules.specs.Writes.{entry_sent}
use Rattle.unit_replica.proofs.send.send_all_next.Given as goal

-- what was sent, and what is still to be sent
abbrev pub invariant-loop-peer : goal.invariant-loop-peer
invariant-loop-peer l = record {
  so_far : l.out ++ frames_of (flat_map (λ p. entry_sent l.replica p (entry_at p.next l.replica.log)) (drop l.peer-index l.peers)) ≡ l.initial.out ++ frames_of (flat_map (λ p. entry_sent l.replica p (entry_at p.next l.replica.log)) l.peers);
  room : length l.out ≤ length l.initial.out + l.peer-index;
}
