use Rattle.std.proofs.Common.{◌≡◌, drop}
use Rattle.ring_rules.specs.Rings.{longest_of}
use Rattle.ring_node.proofs.start.longest_of.Given as goal

abbrev pub invariant-loop-entry : goal.invariant-loop-entry
invariant-loop-entry l = longest_of l.node (drop l.entry-index l.nodes) ≡ longest_of l.node l.nodes
