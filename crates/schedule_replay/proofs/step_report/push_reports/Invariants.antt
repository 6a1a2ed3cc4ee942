use Rattle.std.proofs.Common.{◌≡◌, ◌++◌, drop}
use Rattle.line_format.specs.Reports.{lines_of_reports}
use Rattle.text_fields.specs.Texts.{Keeps}
use Rattle.schedule_replay.proofs.step_report.push_reports.Given as goal

-- what is written and the lines that are left are all lines, and what stood first stands first still
abbrev pub invariant-loop-report : goal.invariant-loop-report
invariant-loop-report l =
    (l.text.items ++ lines_of_reports l.head (drop l.report-index l.reports) ≡ l.fn.text.items ++ lines_of_reports l.head l.reports)
    × Keeps l.fn.text.items l.text.items
