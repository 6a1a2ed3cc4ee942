use Rattle.std.proofs.Common.{◌≡◌, ◌≤◌, length, map, take}
use Rattle.replica_place.proofs.placement.place.Given as goal

abbrev pub invariant-loop-candidate : goal.invariant-loop-candidate
invariant-loop-candidate l = record {
  so_far : l.placed.items ≡ map (λ c. c.node) (take l.candidate-index l.candidate-items);
  room : length l.placed.items ≤ l.candidate-index;
}
