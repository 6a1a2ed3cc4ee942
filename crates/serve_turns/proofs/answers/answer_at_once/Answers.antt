use Rattle.std.proofs.Common.{◌∷◌, [], ap, subst, sym, ◌∙◌}
use Rattle.client_sessions.specs.Answers.{answered_by}
use Rattle.client_sessions.specs.Utterances.{Uttered}
use Rattle.door_io.specs.Clients.{ClientsTold}
use Rattle.serve_rules.specs.Served.{text_at_once}
use Rattle.serve_turns.proofs.Quiet.{takes_at_once}
use Rattle.serve_turns.proofs.answers.answer_at_once.Goals as goal
use Rattle.serve_turns.specs.Live.{Keeps, Live}

pub returns-clause-done : goal.returns-clause-done
returns-clause-done g c = λ watch told p.
    let plan = c.args.service.now.plan in
    let asker = c.args.asker in
    let r = c.args.request.now in
    let a = g.C.Clients.told c.args.audience.now.clients in
    let b = g.C.Clients.told c.obey.new.audience.clients in
    takes_at_once plan told a b (g.P.Policy.advised c.args.audience.now.policy) (g.P.Policy.advised c.obey.new.audience.policy) c.args.live.now c.obey.new.live p asker.client asker.tag r c.requires.going
    (c.obey.ensures.run ∙ ap (λ (l : Live). l.run) c.say_lines.ensures.same) (c.obey.ensures.advised ∙ c.say_lines.ensures.advised)
    (λ v shows. subst (λ (x : ClientsTold). Uttered (answered_by asker (text_at_once plan.config v asker.tag r) ∷ []) a x) (sym c.obey.ensures.clients) (c.say_lines.ensures.said v shows))
    (λ v k. c.obey.ensures.keeps watch plan v (subst (λ (l : Live). Keeps v l) (sym c.say_lines.ensures.same) k))
