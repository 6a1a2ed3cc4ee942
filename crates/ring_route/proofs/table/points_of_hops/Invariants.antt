use Rattle.std.proofs.Common.{◌≡◌, ◌≤◌, length, map, take}
use Rattle.ring_route.specs.declared.known.Known.{Known}
use Rattle.ring_route.proofs.table.points_of_hops.Given as goal

abbrev pub invariant-loop-k : goal.invariant-loop-k
invariant-loop-k l = record {
  points : l.points.items ≡ map (λ (k : Known). k.point) (take l.k-index l.hops);
  few : length l.points.items ≤ l.k-index;
}
