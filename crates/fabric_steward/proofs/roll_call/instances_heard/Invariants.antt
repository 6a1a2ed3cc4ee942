use Rattle.std.proofs.Common.{◌≡◌, drop}
use Rattle.fabric_steward.specs.RollCalls.{instances_heard}
use Rattle.fabric_steward.proofs.roll_call.instances_heard.Given as goal

-- what the nodes that are left make of it is what all make of it
abbrev pub invariant-loop-node : goal.invariant-loop-node
invariant-loop-node g l = instances_heard (g.K.Known.facts l.known) (drop l.node-index l.nodes) l.sum ≡ instances_heard (g.K.Known.facts l.known) l.nodes 0
