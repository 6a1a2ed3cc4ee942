use Rattle.std.proofs.Common.{arith}
use Rattle.fabric_steward.specs.Departures.{unit_moved}
use Rattle.fabric_steward.proofs.Mapping.{mapped_next}
use Rattle.fabric_steward.proofs.departure.move_units.Goals as goal

pub loop-unit-preserved : goal.loop-unit-preserved
loop-unit-preserved c = mapped_next (unit_moved c.args.partition c.args.now) _ _ _ _ _ (omega arith) (omega arith) c.loop-unit.invariant c.moved.ensures
