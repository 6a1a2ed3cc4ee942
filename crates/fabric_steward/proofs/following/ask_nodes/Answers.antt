use Rattle.std.proofs.Common.{arith}
use Rattle.fabric_steward.specs.Afterwards.{node_asked}
use Rattle.fabric_steward.proofs.Mapping.{mapped_next}
use Rattle.fabric_steward.proofs.following.ask_nodes.Goals as goal

pub loop-node-preserved : goal.loop-node-preserved
loop-node-preserved c = mapped_next (node_asked c.args.point c.args.now) _ _ _ _ _ (omega arith) (omega arith) c.loop-node.invariant c.asked.ensures
