-- How a report's line is read.
use Rattle.std.specs.Prelude.{◌≡◌, ℕ, List, Option, Some, None, Result, Ok, Err, codes}
use Rattle.ring_points.specs.Limits.{most_counter, most_name_value}
use Rattle.fabric_terms.specs.declared.report.Head.{Head}
use Rattle.fabric_terms.specs.declared.report.Report.{Report}
use Rattle.fabric_terms.specs.declared.report.Report.TheVariants.{Own, Accused, Discharged, Heir, TookOver, Gave, Took, Returned, LeftRing, Stopped, Found, Nowhere, Promised, Adopted, Accepted, IsPrimary, Committed, Configured, Superseded, UnitList, Resolved, Unresolved, NameList, Refused}
use Rattle.fabric_terms.specs.Ranges.{FitsHead, FitsReport}
use Rattle.ring_points.specs.declared.interval.Interval.{Interval}
use Rattle.ring_points.specs.declared.unit.Epoch.{Epoch}
use Rattle.ring_points.specs.declared.who.Who.{Who}
use Rattle.text_fields.specs.Epochs.{epoch_at}
use Rattle.text_fields.specs.Fields.{◌>>=◌, Field, whole_of, last, word_of, made, both, followed, behind, nothing}
use Rattle.text_fields.specs.Instances.{who_at}
use Rattle.text_fields.specs.Intervals.{ranges_at}
use Rattle.text_fields.specs.Numbers.{number_in, long_at, optional_at}
use Rattle.text_fields.specs.Points.{point_at}
use Rattle.line_format.specs.Commands.{partition_at, in_partition, point_made, text_of}
use Rattle.line_format.specs.Heads.{head_at}
use Rattle.line_format.specs.Lists.{partitions_of, names_of}
use Rattle.line_format.specs.Names.{name_at}
use Rattle.line_format.specs.Refusals.{why_of, verb_at, reason_of}
use Rattle.line_format.specs.Reports.{report_words}
use Rattle.line_format.specs.declared.refusal.LineRefusal.{LineRefusal}
use Rattle.line_format.specs.declared.refusal.LineRefusal.TheVariants as refusal

-- a number of 4 bytes
abbrev pub short_at : List ℕ → Field ℕ
short_at = number_in 0 most_counter

-- behind `gave`, `took` and `returned`: `WHO FLIGHT RANGES`
unfoldable pub flight_of : List ℕ → Option (Who × (ℕ × List Interval))
flight_of = followed (word_of who_at) (followed (word_of short_at) (last ranges_at) both) both

abbrev pub gave_made : Who × (ℕ × List Interval) → Report
gave_made f = Gave f.0 f.1.0 f.1.1

abbrev pub took_made : Who × (ℕ × List Interval) → Report
took_made f = Took f.0 f.1.0 f.1.1

abbrev pub returned_made : Who × (ℕ × List Interval) → Report
returned_made f = Returned f.0 f.1.0 f.1.1

-- behind `tookover`: `WHO RANGES`
unfoldable pub tookover_of : List ℕ → Option Report
tookover_of = followed (word_of who_at) (last ranges_at) TookOver

-- points that change their place
unfoldable pub move_of : List ℕ → Option Report
move_of =
    behind (codes "tookover ") tookover_of (
    behind (codes "gave ") (made gave_made flight_of) (
    behind (codes "took ") (made took_made flight_of) (
    behind (codes "returned ") (made returned_made flight_of) nothing
    )
    )
    )

abbrev pub found_made : ℕ → Who → Report
found_made p who = Found (point_made p) who

abbrev pub nowhere_made : ℕ → Report
nowhere_made p = Nowhere (point_made p)

-- behind `accused` and `discharged`: `WHO`
unfoldable pub accused_of : List ℕ → Option Report
accused_of = made Accused (last who_at)

unfoldable pub discharged_of : List ℕ → Option Report
discharged_of = made Discharged (last who_at)

-- behind `heir`: `WHO RIPE`
unfoldable pub heir_of : List ℕ → Option Report
heir_of = followed (word_of who_at) (last long_at) Heir

-- whom it accused, is rid of, or will take over from
unfoldable pub peer_report_of : List ℕ → Option Report
peer_report_of =
    behind (codes "accused ") accused_of (
    behind (codes "discharged ") discharged_of (
    behind (codes "heir ") heir_of move_of
    )
    )

-- behind `own`: `RANGES FENCE`
unfoldable pub own_of : List ℕ → Option Report
own_of = followed (word_of ranges_at) (last optional_at) Own

-- behind `found`: `POINT WHO`
unfoldable pub found_of : List ℕ → Option Report
found_of = followed (word_of point_at) (last who_at) found_made

-- what a node tells of the ring
unfoldable pub ring_report_of : List ℕ → Option Report
ring_report_of =
    behind (codes "own ") own_of (
    behind (codes "left ") (made LeftRing why_of) (
    behind (codes "stopped") (whole_of Stopped) (
    behind (codes "found ") found_of (
    behind (codes "nowhere ") (made nowhere_made (last point_at)) peer_report_of
    )
    )
    )
    )

-- behind `adopted`, `accepted` and `committed`: `P E LSN`
unfoldable pub entry_of : List ℕ → Option (ℕ × (Epoch × ℕ))
entry_of = followed (word_of partition_at) (followed (word_of epoch_at) (last short_at) both) both

abbrev pub adopted_made : ℕ × (Epoch × ℕ) → Report
adopted_made e = Adopted e.0 e.1.0 e.1.1

abbrev pub accepted_made : ℕ × (Epoch × ℕ) → Report
accepted_made e = Accepted e.0 e.1.0 e.1.1

abbrev pub committed_made : ℕ × (Epoch × ℕ) → Report
committed_made e = Committed e.0 e.1.0 e.1.1

-- what a replica tells of its log
unfoldable pub entry_report_of : List ℕ → Option Report
entry_report_of =
    behind (codes "adopted ") (made adopted_made entry_of) (
    behind (codes "accepted ") (made accepted_made entry_of) (
    behind (codes "committed ") (made committed_made entry_of) ring_report_of
    )
    )

-- behind the other words of a partition: `P E`
unfoldable pub in_epoch : List ℕ → Option (ℕ × Epoch)
in_epoch = in_partition (last epoch_at) both

abbrev pub promised_made : ℕ × Epoch → Report
promised_made e = Promised e.0 e.1

abbrev pub primary_made : ℕ × Epoch → Report
primary_made e = IsPrimary e.0 e.1

abbrev pub configured_made : ℕ × Epoch → Report
configured_made e = Configured e.0 e.1

abbrev pub superseded_made : ℕ × Epoch → Report
superseded_made e = Superseded e.0 e.1

-- what a manager tells of a reconfiguration
unfoldable pub manager_report_of : List ℕ → Option Report
manager_report_of =
    behind (codes "configured ") (made configured_made in_epoch) (behind (codes "superseded ") (made superseded_made in_epoch) entry_report_of)

-- what a replica or a manager tells of its partition
unfoldable pub unit_report_of : List ℕ → Option Report
unit_report_of = behind (codes "promised ") (made promised_made in_epoch) (behind (codes "primary ") (made primary_made in_epoch) manager_report_of)

-- a value, to the end of the line
abbrev pub value_of : List ℕ → Option (List ℕ)
value_of = text_of 1 most_name_value

-- behind `resolved`: `P NAME VALUE`
unfoldable pub named_of : List ℕ → Option (ℕ × (List ℕ × List ℕ))
named_of = followed (word_of partition_at) (followed (word_of name_at) value_of both) both

abbrev pub resolved_made : ℕ × (List ℕ × List ℕ) → Report
resolved_made r = Resolved r.0 r.1.0 r.1.1

-- behind `names`: a partition, and then its names
unfoldable pub name_list_of : List ℕ → Option Report
name_list_of bytes = partition_at bytes >>= λ p. made (NameList p.0) names_of p.1

-- behind `unresolved`: `P NAME`
unfoldable pub unresolved_of : List ℕ → Option Report
unresolved_of = in_partition (last name_at) Unresolved

-- behind `refused`: `COMMAND REASON`
unfoldable pub refused_of : List ℕ → Option Report
refused_of = followed (word_of verb_at) reason_of Refused

-- the reports that take no memory
unfoldable pub plain_report_of : List ℕ → Option Report
plain_report_of =
    behind (codes "unresolved ") unresolved_of (
    behind (codes "refused ") refused_of unit_report_of
    )

-- the words of a report
unfoldable pub report_of : List ℕ → Option Report
report_of =
    behind (codes "units ") (made UnitList partitions_of) (
    behind (codes "resolved ") (made resolved_made named_of) (
    behind (codes "names ") name_list_of plain_report_of
    )
    )

-- a report's line, without its line feed
unfoldable pub line_of : List ℕ → Option (Head × Report)
line_of = followed head_at report_of both

-- what a reader gives that may be short of memory
abbrev pub Reads : {X Y : Type 0} → (X → Y) → Result X LineRefusal → Option Y → Type 0
Reads view (Ok x) read = read ≡ Some (view x)
Reads view (Err refusal.BadLine) read = read ≡ None
Reads view (Err refusal.OutOfMemory) read = Unit {0}

-- what is read as a report's line is spelled so, and what is spelled so is read
abbrev pub ReportReadIsSpelled : Type 0
ReportReadIsSpelled = (line : List ℕ) (head : Head) (r : Report) → line_of line ≡ Some (head, r) → FitsHead head × FitsReport r × (line ≡ report_words head r)

abbrev pub SpelledReportIsRead : Type 0
SpelledReportIsRead = (head : Head) (r : Report) → FitsHead head → FitsReport r → line_of (report_words head r) ≡ Some (head, r)
