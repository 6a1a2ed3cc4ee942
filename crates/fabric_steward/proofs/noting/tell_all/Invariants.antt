use Rattle.std.proofs.Common.{◌≡◌, drop}
use Rattle.fabric_steward.specs.Noted.{units_noted}
use Rattle.fabric_steward.proofs.noting.tell_all.Given as goal

-- what the reports that are left make of the partitions is what all make of them
abbrev pub invariant-loop-report : goal.invariant-loop-report
invariant-loop-report l = units_noted l.lease l.about (drop l.report-index l.told) l.units.items ≡ units_noted l.lease l.about l.told l.initial.units.items
