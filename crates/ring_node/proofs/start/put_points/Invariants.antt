use Rattle.std.proofs.Common.{◌≡◌, ◌≤◌, length, map, take}
use Rattle.ring_rules.specs.Rings.{points_of}
use Rattle.ring_node.proofs.start.put_points.Given as goal

abbrev pub invariant-loop-entry : goal.invariant-loop-entry
invariant-loop-entry l = record {
  points : map (λ p. (p.0, p.1.0)) l.points.items ≡ points_of (take l.entry-index l.nodes);
  few : length l.points.items ≤ l.entry-index;
}
