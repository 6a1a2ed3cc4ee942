use Rattle.std.proofs.Common.{◌≡◌, ◌++◌, map, take, drop}
use Rattle.fabric_steward.specs.Watching.{unit_observed}
use Rattle.fabric_steward.proofs.observing.observe_units.Given as goal

-- the first ones are done
abbrev pub invariant-loop-unit : goal.invariant-loop-unit
invariant-loop-unit g l = l.unit-items ≡ map (unit_observed (g.K.Known.facts l.known) l.now l.domains) (take l.unit-index l.initial.unit-items) ++ drop l.unit-index l.initial.unit-items
