use Rattle.std.proofs.Common.{◌≡◌, take}
use Rattle.line_format.specs.Reports.{lines_of_reports}
use Rattle.turn_effects.proofs.reports.put_lines.Given as goal

-- the lines so far
abbrev pub invariant-loop-report : goal.invariant-loop-report
invariant-loop-report l = l.text.items ≡ lines_of_reports l.head (take l.report-index l.reports)
