use Rattle.std.proofs.Common.{◌≡◌, ◌++◌, map, take, drop}
use Rattle.fabric_steward.specs.Noted.{unit_told_of}
use Rattle.fabric_steward.proofs.noting.tell_units.Given as goal

-- the first ones are done
abbrev pub invariant-loop-unit : goal.invariant-loop-unit
invariant-loop-unit l = l.unit-items ≡ map (unit_told_of l.partition l.lease l.report) (take l.unit-index l.initial.unit-items) ++ drop l.unit-index l.initial.unit-items
