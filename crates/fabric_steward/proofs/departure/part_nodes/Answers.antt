use Rattle.std.proofs.Common.{arith}
use Rattle.fabric_steward.specs.Departures.{node_parted}
use Rattle.fabric_steward.proofs.Mapping.{mapped_next}
use Rattle.fabric_steward.proofs.departure.part_nodes.Goals as goal

pub loop-node-preserved : goal.loop-node-preserved
loop-node-preserved c = mapped_next (node_parted c.args.gone c.args.now) _ _ _ _ _ (omega arith) (omega arith) c.loop-node.invariant c.parted.ensures
