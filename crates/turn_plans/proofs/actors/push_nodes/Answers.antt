use Rattle.turn_plans.proofs.Crews.{next_node, no_node_yet}
use Rattle.turn_plans.proofs.actors.push_nodes.Goals as goal

pub loop-number-init : goal.loop-number-init
loop-number-init c = no_node_yet _ _

pub loop-number-preserved : goal.loop-number-preserved
loop-number-preserved c = next_node _ _ _ _ _ c.loop-number.invariant c.in_ok-push_node.ensures
