use Rattle.std.proofs.Common.{arith}
use Rattle.turn_effects.proofs.Reporting.{lines_next}
use Rattle.turn_effects.proofs.reports.put_lines.Goals as goal

pub loop-report-preserved : goal.loop-report-preserved
loop-report-preserved c =
    lines_next c.args.head.now c.args.reports.now c.loop-report.report-index c.report-item.result _ _ (omega arith) c.report-item.is c.loop-report.invariant c.in_ok-print_report.ensures.ok
