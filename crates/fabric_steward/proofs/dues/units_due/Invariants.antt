use Rattle.std.proofs.Common.{◌≡◌, drop}
use Rattle.fabric_steward.specs.Dues.{units_due}
use Rattle.fabric_steward.proofs.dues.units_due.Given as goal

-- what the partitions that are left make of it is what all make of it
abbrev pub invariant-loop-unit : goal.invariant-loop-unit
invariant-loop-unit l = units_due l.now l.lease l.heal_after (drop l.unit-index l.units) l.soonest ≡ units_due l.now l.lease l.heal_after l.units l.due
