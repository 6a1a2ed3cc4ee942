-- What comes to a node, what is sent and what is told, as frames and lines can carry it.
use Rattle.std.specs.Prelude.{◌≤◌, Bool, ◌&&◌, length, All, IsTrue}
use Rattle.fabric_terms.specs.declared.message.Body.{Body}
use Rattle.fabric_terms.specs.declared.report.Report.{Report}
use Rattle.fabric_terms.specs.declared.report.Report.TheVariants.{UnitList}
use Rattle.ring_points.specs.declared.who.Who.{Who}
use Rattle.ring_rules.specs.declared.input.Input.{Input}
use Rattle.ring_rules.specs.declared.input.Input.TheVariants as input
use Rattle.failover_units.specs.Limits.{most_units}
use Rattle.fabric_terms.specs.Fields.{is_addressee}
use Rattle.fabric_terms.specs.Messages.{is_sound, is_sound_body}
use Rattle.fabric_terms.specs.Ranges.{FitsCommand, FitsReport, IsPartition}

-- what is sent goes to an actor and says something in the grammar
abbrev pub in_format : Who × Body → Bool
in_format m = is_addressee m.0 && is_sound_body m.1

abbrev pub InputInFormat : Input → Type 0
InputInFormat input.Fire = Unit {0}
InputInFormat (input.Frame m) = IsTrue (is_sound m)
InputInFormat (input.Do d) = FitsCommand d

-- a report has a line, from which it is read, and names no more partitions than a node knows
abbrev pub ReportInRange : Report → Type 0
ReportInRange (UnitList partitions) = All IsPartition partitions × (length partitions ≤ most_units)
ReportInRange r = FitsReport r
