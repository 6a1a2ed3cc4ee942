use Rattle.std.proofs.Common.{◌≡◌, ◌<◌, Option, ◌∷◌, [], ap, refl, sym, subst, ◌∙◌, Some, length}
use Rattle.std.proofs.lemmas.Result.{err_from_is_err_and}
use Rattle.client_sessions.specs.Answers.{own_answer, with_answer}
use Rattle.client_sessions.specs.Sessions.{Kept, after_step, of_step}
use Rattle.client_sessions.specs.Utterances.{Uttered}
use Rattle.fabric_terms.specs.declared.command.Command.{Command}
use Rattle.open_answers.specs.Answers.{most_open_answers}
use Rattle.ring_points.specs.declared.point.Point.{Point}
use Rattle.ring_rules.specs.declared.input.Input.TheVariants as input
use Rattle.serve_rules.proofs.Reading.{may_bid}
use Rattle.serve_rules.specs.Events.{sought_by}
use Rattle.serve_rules.specs.Lines.{Commands, line_of}
use Rattle.serve_rules.specs.Lives.{happenings, served}
use Rattle.serve_turns.proofs.Commands.{asked_at, bids_at, busy, command_done, command_quiet, meets_command, step_leaves_room}
use Rattle.serve_turns.proofs.Steps.{ends_event}
use Rattle.serve_turns.proofs.asked_commands.do_command.Goals as goal
use Rattle.serve_turns.specs.Live.{Around, At, Live, around}
use Rattle.serve_turns.specs.Telling.{told_of}
use Rattle.turn_rules.specs.Steps.{present}

pub returns-in_err-deed-clause-done : goal.returns-in_err-deed-clause-done
returns-in_err-deed-clause-done g c =
    let p = err_from_is_err_and c.from_residual.result c.from_residual.ensures.1 in
    λ line is o es before at came.
    let plan = c.args.service.now.plan in
    let command = c.args.asked.command in
    let client = c.args.asked.asker.client in
    let tag = c.args.asked.asker.tag in
    let b : Around = around (g.O.Outside.told c.args.outside.now) (g.C.Clients.told c.args.audience.now.clients) (g.P.Policy.advised c.args.audience.now.policy) in
    let d = around (g.O.Outside.told c.act.new.outside) (g.C.Clients.told c.args.audience.now.clients) (g.P.Policy.advised c.args.audience.now.policy) in
    let l : Live = record {
      run = c.live.inside.run;
      sessions = c.live.inside.sessions;
      pace = c.live.inside.pace;
      changes = c.live.inside.changes;
      leaving = c.live.inside.leaving;
      ending = c.live.inside.ending;
    } in
    let here : line_of plan (served plan o.kept o.sessions es).sessions client line ≡ Commands tag command = ap (λ (s : Kept). line_of plan s client line) at.keeps.sessions ∙ is in
    let before_it : At plan o (record b { clients = before }) l es (busy c.args.turn) = subst (λ (k : Live). At plan o (record b { clients = before }) k es (busy c.args.turn)) (sym c.live.view_is) at in
    let met = meets_command plan o b before l es c.args.turn client line tag command c.requires.node (may_bid plan command c.requires.named) (ap (λ (k : Live). k.ending) c.live.view_is ∙ c.requires.can.going) before_it came here in
    rw (p.1, p.2)
    (ends_event plan o b d l (record l { run = c.act.new.run }) es (asked_at c.args.turn client line) (bids_at c.args.turn command) (busy c.args.turn) c.in_err-deed.field-0.0 met
    (command_quiet plan (served plan o.kept o.sessions es) c.args.turn client line tag command here)
    (c.in_err-deed.ensures.done o.kept o.told (happenings plan o.kept o.sessions es) (bids_at c.args.turn command) (busy c.args.turn) met.run refl) refl refl refl refl)

pub answer-requires : goal.answer-requires
answer-requires g c =
    let room : length c.live.inside.sessions.answers.waiting < most_open_answers = subst (λ (k : Live). length k.sessions.answers.waiting < most_open_answers) (sym c.live.view_is) c.requires.room in
    record {
      room = subst (λ (s : Kept). length s.answers.waiting < most_open_answers) (sym c.tell.ensures.sessions) (step_leaves_room c.live.inside.sessions (told_of c.in_ok-deed.deed (Some (input.Do c.args.asked.command)) c.sought_by.result) most_open_answers room);
    }

pub returns-clause-done : goal.returns-clause-done
returns-clause-done g c = λ line is o es before at came.
    let plan = c.args.service.now.plan in
    let command = c.args.asked.command in
    let client = c.args.asked.asker.client in
    let tag = c.args.asked.asker.tag in
    let l : Live = record {
      run = c.live.inside.run;
      sessions = c.live.inside.sessions;
      pace = c.live.inside.pace;
      changes = c.live.inside.changes;
      leaving = c.live.inside.leaving;
      ending = c.live.inside.ending;
    } in
    let i = input.Do command in
    let b : Around = around (g.O.Outside.told c.args.outside.now) (g.C.Clients.told c.args.audience.now.clients) (g.P.Policy.advised c.args.audience.now.policy) in
    let m = around (g.O.Outside.told c.act.new.outside) (g.C.Clients.told c.tell.new.audience.clients) (g.P.Policy.advised c.tell.new.audience.policy) in
    let d = around (g.O.Outside.told c.act.new.outside) (g.C.Clients.told c.answer.new.audience.clients) (g.P.Policy.advised c.answer.new.audience.policy) in
    let here : line_of plan (served plan o.kept o.sessions es).sessions client line ≡ Commands tag command = ap (λ (s : Kept). line_of plan s client line) at.keeps.sessions ∙ is in
    let before_it : At plan o (record b { clients = before }) l es (busy c.args.turn) = subst (λ (k : Live). At plan o (record b { clients = before }) k es (busy c.args.turn)) (sym c.live.view_is) at in
    let met = meets_command plan o b before l es c.args.turn client line tag command c.requires.node (may_bid plan command c.requires.named) (ap (λ (k : Live). k.ending) c.live.view_is ∙ c.requires.can.going) before_it came here in
    let same : c.in-Do.command ≡ command = cc in
    let sought : c.sought_by.result ≡ sought_by command = c.sought_by.ensures ∙ ap sought_by same in
    let told : Uttered (of_step l.sessions (told_of c.in_ok-deed.deed (Some i) (sought_by command))) b.clients m.clients =
    subst (λ (q : Option Point). Uttered (of_step l.sessions (told_of c.in_ok-deed.deed (Some i) q)) b.clients m.clients) sought c.tell.ensures.said in
    let sessions : c.tell.new.live.sessions ≡ after_step l.sessions (told_of c.in_ok-deed.deed (Some i) (sought_by command)) =
    c.tell.ensures.sessions ∙ ap (λ (q : Option Point). after_step l.sessions (told_of c.in_ok-deed.deed (Some i) q)) sought in
    let said : Uttered (own_answer c.args.asked.asker command (told_of c.in_ok-deed.deed (Some i) (sought_by command)) ∷ []) m.clients d.clients =
    subst (λ (x : Command). Uttered (own_answer c.args.asked.asker x (told_of c.in_ok-deed.deed (Some (input.Do x)) (sought_by command)) ∷ []) m.clients d.clients) same (c.answer.ensures.said (sought_by command)) in
    let kept : c.answer.new.live.sessions ≡ with_answer c.tell.new.live.sessions c.args.asked.asker command (told_of c.in_ok-deed.deed (Some i) (sought_by command)) (present c.tell.new.live.run.last) =
    c.answer.ensures.sessions (sought_by command)
    ∙ ap (λ (x : Command). with_answer c.tell.new.live.sessions c.args.asked.asker x (told_of c.in_ok-deed.deed (Some (input.Do x)) (sought_by command)) (present c.tell.new.live.run.last)) same in
    command_done plan o b m d l c.act.new.run c.tell.new.live c.answer.new.live es c.args.turn client line tag command c.in_ok-deed.deed c.go_on-2.result here met
    (c.in_ok-deed.ensures.done o.kept o.told (happenings plan o.kept o.sessions es) (bids_at c.args.turn command) (busy c.args.turn) met.run refl) told sessions c.tell.ensures.pace c.tell.ensures.rest
    said kept c.answer.ensures.rest (c.answer.ensures.advised ∙ c.tell.ensures.advised) c.go_on-2.ensures
