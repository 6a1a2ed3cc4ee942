use Rattle.std.proofs.Common.{subst}
use Rattle.open_answers.specs.Answers.{by_step, ended_by}
use Rattle.client_sessions.specs.Sessions.{Kept, ended_replies, step_of}
use Rattle.client_sessions.specs.Utterances.{Uttered}
use Rattle.client_sessions.proofs.Chains.{uttered_on}
use Rattle.client_sessions.proofs.sessions.Sessions.tell.Goals as goal

pub returns-clause-said : goal.returns-clause-said
returns-clause-said g c =
    let step = step_of c.args.step.now in
    uttered_on c.tell_reports.ensures.said
    (subst (λ (s : Kept). Uttered (ended_replies step.head step.reports (ended_by (by_step step.prepared step.reports) s.answers.waiting)) (g.C.Clients.told c.tell_reports.new.clients) (g.C.Clients.told c.end_answers.new.clients)) c.tell_reports.ensures.after c.end_answers.ensures.said)
