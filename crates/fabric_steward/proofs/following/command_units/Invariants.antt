use Rattle.std.proofs.Common.{◌≡◌, ◌++◌, map, take, drop}
use Rattle.fabric_steward.specs.Afterwards.{unit_commanded}
use Rattle.fabric_steward.proofs.following.command_units.Given as goal

-- the first ones are done
abbrev pub invariant-loop-unit : goal.invariant-loop-unit
invariant-loop-unit l = l.unit-items ≡ map (unit_commanded l.partition l.deed l.now) (take l.unit-index l.initial.unit-items) ++ drop l.unit-index l.initial.unit-items
