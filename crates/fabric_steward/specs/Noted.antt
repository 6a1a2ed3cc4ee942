-- What the policy learns from a step of its node.
use Rattle.std.specs.Prelude.{ℕ, ◌==◌, true, false, List, map, fold, Option, Some, None, if◌then◌else◌}
use Rattle.fabric_terms.specs.declared.command.Command.{Command}
use Rattle.fabric_terms.specs.declared.command.Command.TheVariants as command
use Rattle.fabric_terms.specs.declared.message.Body.{Body}
use Rattle.fabric_terms.specs.declared.message.Body.TheVariants.{Prepared}
use Rattle.fabric_terms.specs.declared.report.Reason.{Reason}
use Rattle.fabric_terms.specs.declared.report.Reason.TheVariants.{NoUnit, Exists}
use Rattle.fabric_terms.specs.declared.report.Report.{Report}
use Rattle.fabric_terms.specs.declared.report.Report.TheVariants.{Configured, Superseded, Refused}
use Rattle.ring_rules.specs.declared.input.Input.{Input}
use Rattle.ring_rules.specs.declared.input.Input.TheVariants.{Fire, Frame, Do}
use Rattle.fabric_steward.specs.declared.roll_call.RollCall.TheVariants.{NotBegun}
use Rattle.fabric_steward.specs.declared.unit_watch.UnitWatch.{UnitWatch}
use Rattle.fabric_steward.specs.Policies.{Policy}
use Rattle.fabric_steward.specs.Times.{doubled, first_pause}

-- The partition of which a refusal in this step speaks, since it does not name it: that of a create or a heal, or that
-- of a Prepared.

abbrev pub partition_prepared : Body → Option ℕ
partition_prepared (Prepared partition epoch config) = Some partition
partition_prepared _ = None

abbrev pub partition_commanded : Command → Option ℕ
partition_commanded (command.Create partition count) = Some partition
partition_commanded (command.Heal partition count) = Some partition
partition_commanded _ = None

abbrev pub partition_of : Input → Option ℕ
partition_of Fire = None
partition_of (Frame message) = partition_prepared message.body
partition_of (Do command) = partition_commanded command

-- it is learnt, and everything about it begins anew
abbrev pub unit_configured : (lease : ℕ) → UnitWatch → UnitWatch
unit_configured lease w = record w {
  learnt = true;
  missing = false;
  pause = first_pause lease;
  served_by = None;
  down = None;
  few = None;
  roll = NotBegun;
  missed = None;
}

abbrev pub unit_slowed : (lease : ℕ) → UnitWatch → UnitWatch
unit_slowed lease w = record w { pause = doubled lease w.pause }

-- a manager that has not learnt the partition knows its epoch now, and need not wait longer for that
abbrev pub unit_superseded : (lease : ℕ) → UnitWatch → UnitWatch
unit_superseded lease w = if w.learnt then unit_slowed lease w else w

-- there is no such partition, or there is one; any other refusal doubles the pause
abbrev pub unit_refused : (lease : ℕ) → Reason → UnitWatch → UnitWatch
unit_refused lease NoUnit w = record w { missing = true }
unit_refused lease Exists w = record w { missing = false }
unit_refused lease _ w = unit_slowed lease w

-- what a report says of a partition
abbrev pub unit_told : (lease : ℕ) → Report → UnitWatch → UnitWatch
unit_told lease (Configured partition epoch) w = unit_configured lease w
unit_told lease (Superseded partition epoch) w = unit_superseded lease w
unit_told lease (Refused verb reason) w = unit_refused lease reason w
unit_told lease _ w = w

abbrev pub unit_told_of : (partition lease : ℕ) → Report → UnitWatch → UnitWatch
unit_told_of partition lease report w = if w.partition == partition then unit_told lease report w else w

-- the partition of which a report speaks
abbrev pub partition_told : Option ℕ → Report → Option ℕ
partition_told about (Configured partition epoch) = Some partition
partition_told about (Superseded partition epoch) = Some partition
partition_told about (Refused verb reason) = about
partition_told about _ = None

abbrev pub told_at : Option ℕ → (lease : ℕ) → Report → List UnitWatch → List UnitWatch
told_at None lease report ws = ws
told_at (Some partition) lease report ws = map (unit_told_of partition lease report) ws

-- the reports of a step, in their order
abbrev pub units_noted : (lease : ℕ) → Option ℕ → List Report → List UnitWatch → List UnitWatch
units_noted lease about told ws = fold (λ units report. told_at (partition_told about report) lease report units) ws told

abbrev pub noted : Input → List Report → Policy → Policy
noted input told s = record s { units = units_noted s.lease (partition_of input) told s.units }
