use Rattle.std.proofs.Common.{◌≡◌, ◌≤◌, ◌*◌, length}
use Rattle.ring_node.specs.Nodes.{by, step}
use Rattle.ring_rules.specs.Firing.{slots_fired}
use Rattle.ring_node.proofs.node.RingNode.fire_slots.Given as goal
use Rattle.ring_node.specs.Limits.{most_slot_messages, most_slot_reports}

abbrev pub invariant-loop-i : goal.invariant-loop-i
invariant-loop-i l = record {
  row : step l.self l.out l.told ≡ by (λ c. slots_fired c l.now l.i) (step l.initial.self l.initial.out l.initial.told);
  short : length l.out ≤ most_slot_messages * l.i;
  few : length l.told ≤ most_slot_reports * l.i;
}
