use Rattle.std.proofs.Common.{◌≡◌, ◌++◌, drop}
use Rattle.serve_top.specs.NodeFacts.{link_facts}
use Rattle.serve_top.proofs.node_facts.links_of.Given as goal

-- what is found so far, and what is left to look at
abbrev pub invariant-loop-slot : goal.invariant-loop-slot
invariant-loop-slot l = l.facts.items ++ link_facts (drop l.slot-index l.slots) ≡ link_facts l.slots
