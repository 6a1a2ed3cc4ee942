use Rattle.std.proofs.Common.{arith}
use Rattle.client_sessions.specs.Sessions.{is_asked}
use Rattle.client_sessions.proofs.Reports.{choice_more, reports_more}
use Rattle.client_sessions.proofs.telling.tell_each_report.Goals as goal

pub loop-report-preserved : goal.loop-report-preserved
loop-report-preserved g c =
    let item = c.report-item in
    let step = c.args.step.now in
    let asked = c.args.asked.now in
    record {
      said = reports_more c.args.written.now c.loop-report.written c.args.watchers.now (is_asked asked.answers.now.waiting asked.sought) step.head.now step.reports.now c.loop-report.report-index item.result c.choose-logged.result _ _ _ (omega arith) item.is c.loop-report.invariant.choice c.choose-logged.ensures.logged c.loop-report.invariant.said c.tell_report.ensures;
      choice = choice_more c.args.written.now c.loop-report.written c.choose-logged.new.written step.reports.now c.loop-report.report-index item.result (omega arith) item.is c.loop-report.invariant.choice c.choose-logged.ensures.next;
    }
