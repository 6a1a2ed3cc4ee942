use Rattle.std.proofs.Common.{◌≡◌, ◌≤◌, ◌==◌, filter, length, map, not, take}
use Rattle.unit_rules.specs.Progress.{first_peer}
use Rattle.unit_replica.proofs.progress.ReplicationProgress.first.Given as goal

abbrev pub invariant-loop-node : goal.invariant-loop-node
invariant-loop-node l = record {
  so_far : l.peers.items ≡ map (first_peer l.last) (filter (λ n. not (n == l.me)) (take l.node-index l.node-items));
  room : length l.peers.items ≤ l.node-index;
}
