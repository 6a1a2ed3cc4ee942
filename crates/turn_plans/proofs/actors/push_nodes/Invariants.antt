use Rattle.std.proofs.Common.{◌≡◌, ◌++◌}
use Rattle.turn_plans.specs.Crews.{nodes_to}
use Rattle.turn_plans.proofs.actors.push_nodes.Given as goal

abbrev pub invariant-loop-number : goal.invariant-loop-number
invariant-loop-number l = l.into.items ≡ l.fn.into.items ++ nodes_to l.config l.number
