use Rattle.std.proofs.Common.{arith}
use Rattle.fabric_steward.specs.Watching.{unit_forgotten}
use Rattle.fabric_steward.proofs.Mapping.{mapped_next}
use Rattle.fabric_steward.proofs.observing.forget_units.Goals as goal

pub loop-unit-preserved : goal.loop-unit-preserved
loop-unit-preserved c = mapped_next (unit_forgotten c.args.lease) _ _ _ _ _ (omega arith) (omega arith) c.loop-unit.invariant c.forgotten.ensures
