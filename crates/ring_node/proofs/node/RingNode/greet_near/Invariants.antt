use Rattle.std.proofs.Common.{◌≡◌, ◌≤◌, ◌+◌, List, drop, length}
use Rattle.fabric_terms.specs.declared.report.Report.{Report}
use Rattle.ring_node.specs.Nodes.{IsPatched, by, step}
use Rattle.ring_rules.specs.Firing.{greet_all}
use Rattle.ring_node.proofs.node.RingNode.greet_near.Given as goal

abbrev pub invariant-loop-node : goal.invariant-loop-node
invariant-loop-node l = record {
  rest : (told : List Report) → by (λ c. greet_all c l.now (drop l.node-index l.node-items)) (step l.self l.out told) ≡ by (λ c. greet_all c l.now l.node-items) (step l.initial.self l.initial.out told);
  patched : (told : List Report) → IsPatched (step l.initial.self l.initial.out told) (step l.self l.out told);
  few : length l.out ≤ length l.initial.out + l.node-index;
}
