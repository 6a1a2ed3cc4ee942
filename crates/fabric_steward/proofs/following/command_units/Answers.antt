use Rattle.std.proofs.Common.{arith}
use Rattle.fabric_steward.specs.Afterwards.{unit_commanded}
use Rattle.fabric_steward.proofs.Mapping.{mapped_next}
use Rattle.fabric_steward.proofs.following.command_units.Goals as goal

pub loop-unit-preserved : goal.loop-unit-preserved
loop-unit-preserved c = mapped_next (unit_commanded c.args.partition c.args.deed c.args.now) _ _ _ _ _ (omega arith) (omega arith) c.loop-unit.invariant c.commanded.ensures
