use Rattle.std.proofs.Common.{arith}
use Rattle.fabric_steward.specs.Departures.{node_unasked}
use Rattle.fabric_steward.proofs.Mapping.{mapped_next}
use Rattle.fabric_steward.proofs.departure.forget_asked.Goals as goal

pub loop-node-preserved : goal.loop-node-preserved
loop-node-preserved c = mapped_next node_unasked _ _ _ _ _ (omega arith) (omega arith) c.loop-node.invariant c.unasked.ensures
