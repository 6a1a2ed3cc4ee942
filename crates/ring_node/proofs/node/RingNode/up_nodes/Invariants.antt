use Rattle.std.proofs.Common.{◌≡◌, ◌≤◌, ◌+◌, drop, length, map}
use Rattle.std.specs.List.{filter}
use Rattle.ring_rules.specs.Rising.{rising}
use Rattle.ring_rules.specs.Up.{is_up}
use Rattle.ring_node.proofs.node.RingNode.up_nodes.Given as goal

abbrev pub invariant-loop-i : goal.invariant-loop-i
invariant-loop-i l = record {
  up : l.rising.items ≡ rising (filter (is_up l.since l.self.ring) (map (λ p. p.0) (drop l.i l.self-inside.points.items)));
  few : length l.rising.items + l.i ≤ length l.self-inside.points.items;
}
