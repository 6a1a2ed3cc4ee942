use Rattle.std.proofs.Common.{◌≡◌, ◌≤◌, length, map, take}
use Rattle.unit_rules.specs.Progress.{peer_confirms}
use Rattle.unit_replica.proofs.progress.confirmed_peers.Given as goal

abbrev pub invariant-loop-peer : goal.invariant-loop-peer
invariant-loop-peer l = record {
  so_far : l.told.items ≡ map (peer_confirms l.node l.last l.own) (take l.peer-index l.peers);
  room : length l.told.items ≤ l.peer-index;
}
