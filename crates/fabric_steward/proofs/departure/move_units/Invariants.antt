use Rattle.std.proofs.Common.{◌≡◌, ◌++◌, map, take, drop}
use Rattle.fabric_steward.specs.Departures.{unit_moved}
use Rattle.fabric_steward.proofs.departure.move_units.Given as goal

-- the first ones are done
abbrev pub invariant-loop-unit : goal.invariant-loop-unit
invariant-loop-unit l = l.unit-items ≡ map (unit_moved l.partition l.now) (take l.unit-index l.initial.unit-items) ++ drop l.unit-index l.initial.unit-items
