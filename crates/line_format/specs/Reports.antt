-- The lines of a report, as they are printed.
use Rattle.std.specs.Prelude.{ℕ, List, [], ◌∷◌, ◌++◌, codes, decimal}
use Rattle.fabric_terms.specs.declared.report.Head.{Head}
use Rattle.fabric_terms.specs.declared.report.Report.{Report}
use Rattle.fabric_terms.specs.declared.report.Report.TheVariants.{Own, Accused, Discharged, Heir, TookOver, Gave, Took, Returned, LeftRing, Stopped, Found, Nowhere, Promised, Adopted, Accepted, IsPrimary, Committed, Configured, Superseded, UnitList, Resolved, Unresolved, NameList, Refused}
use Rattle.text_fields.specs.Epochs.{epoch_text}
use Rattle.text_fields.specs.Instances.{who_text}
use Rattle.text_fields.specs.Intervals.{ranges_text}
use Rattle.text_fields.specs.Numbers.{optional_text}
use Rattle.text_fields.specs.Points.{point_text}
use Rattle.text_fields.specs.Texts.{spaced}
use Rattle.line_format.specs.Heads.{head_text}
use Rattle.line_format.specs.Lists.{partitions_text, names_text}
use Rattle.line_format.specs.Refusals.{why_text, verb_text, reason_text}

-- the words of a report
abbrev pub report_text : Report → List ℕ
report_text (Own ranges fence) = spaced (codes "own" ∷ ranges_text ranges ∷ optional_text fence ∷ [])
report_text (Accused who) = spaced (codes "accused" ∷ who_text who ∷ [])
report_text (Discharged who) = spaced (codes "discharged" ∷ who_text who ∷ [])
report_text (Heir who ripe) = spaced (codes "heir" ∷ who_text who ∷ decimal ripe ∷ [])
report_text (TookOver who ranges) = spaced (codes "tookover" ∷ who_text who ∷ ranges_text ranges ∷ [])
report_text (Gave to flight ranges) = spaced (codes "gave" ∷ who_text to ∷ decimal flight ∷ ranges_text ranges ∷ [])
report_text (Took from flight ranges) = spaced (codes "took" ∷ who_text from ∷ decimal flight ∷ ranges_text ranges ∷ [])
report_text (Returned to flight ranges) = spaced (codes "returned" ∷ who_text to ∷ decimal flight ∷ ranges_text ranges ∷ [])
report_text (LeftRing why) = spaced (codes "left" ∷ why_text why ∷ [])
report_text Stopped = codes "stopped"
report_text (Found key who) = spaced (codes "found" ∷ point_text key.0 ∷ who_text who ∷ [])
report_text (Nowhere key) = spaced (codes "nowhere" ∷ point_text key.0 ∷ [])
report_text (Promised partition epoch) = spaced (codes "promised" ∷ decimal partition ∷ epoch_text epoch ∷ [])
report_text (Adopted partition epoch last) = spaced (codes "adopted" ∷ decimal partition ∷ epoch_text epoch ∷ decimal last ∷ [])
report_text (Accepted partition epoch lsn) = spaced (codes "accepted" ∷ decimal partition ∷ epoch_text epoch ∷ decimal lsn ∷ [])
report_text (IsPrimary partition epoch) = spaced (codes "primary" ∷ decimal partition ∷ epoch_text epoch ∷ [])
report_text (Committed partition epoch lsn) = spaced (codes "committed" ∷ decimal partition ∷ epoch_text epoch ∷ decimal lsn ∷ [])
report_text (Configured partition epoch) = spaced (codes "configured" ∷ decimal partition ∷ epoch_text epoch ∷ [])
report_text (Superseded partition epoch) = spaced (codes "superseded" ∷ decimal partition ∷ epoch_text epoch ∷ [])
report_text (UnitList partitions) = spaced (codes "units" ∷ partitions_text partitions ∷ [])
report_text (Resolved partition name value) = spaced (codes "resolved" ∷ decimal partition ∷ name ∷ value ∷ [])
report_text (Unresolved partition name) = spaced (codes "unresolved" ∷ decimal partition ∷ name ∷ [])
report_text (NameList partition names) = spaced (codes "names" ∷ (decimal partition ++ names_text names) ∷ [])
report_text (Refused command reason) = spaced (codes "refused" ∷ verb_text command ∷ reason_text reason ∷ [])

-- a line, without its line feed
abbrev pub report_words : Head → Report → List ℕ
report_words head report = spaced (head_text head ∷ report_text report ∷ [])

abbrev pub report_line : Head → Report → List ℕ
report_line head report = report_words head report ++ codes "\n"

-- the lines of reports that have one head
abbrev pub lines_of_reports : Head → List Report → List ℕ
lines_of_reports head [] = []
lines_of_reports head (r ∷ rs) = report_line head r ++ lines_of_reports head rs

-- the numbers of the first and the last frame of a step
abbrev pub sent_line : Head → ℕ × ℕ → List ℕ
sent_line head sent =
    spaced (head_text head ∷ codes "sent" ∷ (decimal sent.0 ++ (codes "-" ++ decimal sent.1)) ∷ []) ++ codes "\n"
