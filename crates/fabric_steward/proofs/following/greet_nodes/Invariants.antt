use Rattle.std.proofs.Common.{◌≡◌, ◌++◌, map, take, drop}
use Rattle.fabric_steward.specs.Afterwards.{node_greeted}
use Rattle.fabric_steward.proofs.following.greet_nodes.Given as goal

-- the first ones are done
abbrev pub invariant-loop-node : goal.invariant-loop-node
invariant-loop-node l = l.node-items ≡ map (node_greeted l.greeted l.now) (take l.node-index l.initial.node-items) ++ drop l.node-index l.initial.node-items
