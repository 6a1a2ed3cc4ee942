use Rattle.std.proofs.Common.{◌≡◌, take}
use Rattle.client_sessions.specs.Utterances.{Uttered}
use Rattle.client_sessions.specs.Sessions.{choice_after, is_asked, of_reports}
use Rattle.client_sessions.proofs.telling.tell_each_report.Given as goal

-- the reports so far were told
abbrev pub invariant-loop-report : goal.invariant-loop-report
invariant-loop-report g l = record {
  said : Uttered (of_reports l.initial.written l.watchers (is_asked l.asked.answers.now.waiting l.asked.sought) l.step.head.now (take l.report-index l.step.reports.now)) (g.C.Clients.told l.initial.clients) (g.C.Clients.told l.clients);
  choice : l.written ≡ choice_after l.initial.written (take l.report-index l.step.reports.now);
}
