use Rattle.std.proofs.Common.{◌≡◌, ◌+◌, ◌≤◌, ◌∷◌, length, map, take}
use Rattle.unit_replica.proofs.progress.ReplicationProgress.most_confirmed.Given as goal

abbrev pub invariant-loop-peer : goal.invariant-loop-peer
invariant-loop-peer l = record {
  so_far : l.confirmed.items ≡ l.own ∷ map (λ p. p.confirmed) (take l.peer-index l.peer-items);
  room : length l.confirmed.items ≤ l.peer-index + 1;
}
