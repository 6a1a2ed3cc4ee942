use Rattle.std.proofs.Common.{◌≡◌, ◌++◌, map, take, drop}
use Rattle.fabric_steward.specs.Watching.{unit_forgotten}
use Rattle.fabric_steward.proofs.observing.forget_units.Given as goal

-- the first ones are done
abbrev pub invariant-loop-unit : goal.invariant-loop-unit
invariant-loop-unit l = l.unit-items ≡ map (unit_forgotten l.lease) (take l.unit-index l.initial.unit-items) ++ drop l.unit-index l.initial.unit-items
