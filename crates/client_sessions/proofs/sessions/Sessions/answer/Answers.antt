use Rattle.std.proofs.Common.{[], ◌∷◌, subst}
use Rattle.open_answers.specs.declared.answer.Answer.{Answer}
use Rattle.client_sessions.specs.Answers.{own_text}
use Rattle.client_sessions.specs.Utterances.{Reply, Uttered}
use Rattle.client_sessions.proofs.sessions.Sessions.answer.Goals as goal

pub returns-clause-said : goal.returns-clause-said
returns-clause-said g c =
    let asker = c.args.asker in
    let step = c.args.step.now in
    subst (λ (a : Answer). Uttered (Reply asker.client (own_text asker.tag step.head.now step.reports.now a) ∷ []) (g.C.Clients.told c.args.clients.now) (g.C.Clients.told c.say_own.new.clients)) c.ask-answer.ensures.answer c.say_own.ensures
