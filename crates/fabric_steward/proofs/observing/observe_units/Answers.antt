use Rattle.std.proofs.Common.{arith}
use Rattle.fabric_steward.specs.Watching.{unit_observed}
use Rattle.fabric_steward.proofs.Mapping.{mapped_next}
use Rattle.fabric_steward.proofs.observing.observe_units.Goals as goal

pub loop-unit-preserved : goal.loop-unit-preserved
loop-unit-preserved g c = mapped_next (unit_observed (g.K.Known.facts c.args.known.now) c.args.now c.args.domains) _ _ _ _ _ (omega arith) (omega arith) c.loop-unit.invariant c.observed.ensures
