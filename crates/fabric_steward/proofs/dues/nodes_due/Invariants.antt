use Rattle.std.proofs.Common.{◌≡◌, drop}
use Rattle.fabric_steward.specs.Dues.{nodes_due}
use Rattle.fabric_steward.proofs.dues.nodes_due.Given as goal

-- what the nodes that are left make of it is what all make of it
abbrev pub invariant-loop-node : goal.invariant-loop-node
invariant-loop-node l = nodes_due l.now l.lease (drop l.node-index l.nodes) l.soonest ≡ nodes_due l.now l.lease l.nodes l.due
