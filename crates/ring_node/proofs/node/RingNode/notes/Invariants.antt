use Rattle.std.proofs.Common.{◌≡◌, ◌+◌, ◌≤◌, drop, length}
use Rattle.link_core.specs.Ties.{all_noted}
use Rattle.ring_node.specs.Nodes.{by, step}
use Rattle.ring_node.proofs.Noted.{Keeps}
use Rattle.ring_node.proofs.node.RingNode.notes.Given as goal

abbrev pub invariant-loop-note : goal.invariant-loop-note
invariant-loop-note l = record {
  rest : by (λ c. all_noted l.cause (drop l.note-index l.notes)) (step l.self l.out l.told) ≡ by (λ c. all_noted l.cause l.notes) (step l.initial.self l.initial.out l.initial.told);
  settings : l.self.settings ≡ l.initial.self.settings;
  keeps : Keeps (step l.initial.self l.initial.out l.initial.told).work (step l.self l.out l.told).work;
  few : length l.told ≤ length l.initial.told + l.note-index;
  short : length l.out ≤ length l.initial.out + l.note-index;
}
