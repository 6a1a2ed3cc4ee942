use Rattle.std.proofs.Common.{◌≡◌, ◌++◌, map, take, drop}
use Rattle.fabric_steward.specs.Departures.{node_unasked}
use Rattle.fabric_steward.proofs.departure.forget_asked.Given as goal

-- the first ones are done
abbrev pub invariant-loop-node : goal.invariant-loop-node
invariant-loop-node l = l.node-items ≡ map node_unasked (take l.node-index l.initial.node-items) ++ drop l.node-index l.initial.node-items
