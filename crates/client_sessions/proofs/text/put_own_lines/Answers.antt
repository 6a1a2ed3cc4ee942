use Rattle.std.proofs.Common.{arith}
use Rattle.client_sessions.proofs.Reports.{own_more}
use Rattle.client_sessions.proofs.text.put_own_lines.Goals as goal

pub loop-report-preserved : goal.loop-report-preserved
loop-report-preserved c =
    own_more _ _ _ c.args.tag c.args.head.now c.args.told.now c.loop-report.report-index c.report-item.result (omega arith) c.report-item.is c.loop-report.invariant c.in_ok-put_own_line.ensures.ok
