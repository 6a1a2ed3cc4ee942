use Rattle.std.proofs.Common.{arith}
use Rattle.fabric_steward.specs.Afterwards.{node_greeted}
use Rattle.fabric_steward.proofs.Mapping.{mapped_next}
use Rattle.fabric_steward.proofs.following.greet_nodes.Goals as goal

pub loop-node-preserved : goal.loop-node-preserved
loop-node-preserved c = mapped_next (node_greeted c.args.greeted c.args.now) _ _ _ _ _ (omega arith) (omega arith) c.loop-node.invariant c.greeted.ensures
