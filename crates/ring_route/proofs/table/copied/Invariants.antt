use Rattle.std.proofs.Common.{◌≡◌, ◌≤◌, length, take}
use Rattle.ring_route.specs.Entries.{points_of}
use Rattle.ring_route.proofs.table.copied.Given as goal

abbrev pub invariant-loop-node : goal.invariant-loop-node
invariant-loop-node l = record {
  copied : l.copy.items ≡ points_of (take l.node-index l.points);
  few : length l.copy.items ≤ l.node-index;
}
