use Rattle.std.proofs.Common.{◌≡◌, ◌≤◌, filter, length, take}
use Rattle.ring_route.specs.Routes.{may_hop}
use Rattle.ring_route.proofs.known.hops.Given as goal

abbrev pub invariant-loop-k : goal.invariant-loop-k
invariant-loop-k l = record {
  filtered : l.hops.items ≡ filter (may_hop l.skip l.accused) (take l.k-index l.known);
  few : length l.hops.items ≤ l.k-index;
}
