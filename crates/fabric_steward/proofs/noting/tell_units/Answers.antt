use Rattle.std.proofs.Common.{arith}
use Rattle.fabric_steward.specs.Noted.{unit_told_of}
use Rattle.fabric_steward.proofs.Mapping.{mapped_next}
use Rattle.fabric_steward.proofs.noting.tell_units.Goals as goal

pub loop-unit-preserved : goal.loop-unit-preserved
loop-unit-preserved c = mapped_next (unit_told_of c.args.partition c.args.lease c.args.report.now) _ _ _ _ _ (omega arith) (omega arith) c.loop-unit.invariant c.told_of.ensures
