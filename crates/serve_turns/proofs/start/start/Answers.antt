use Rattle.std.proofs.Common.{◌∷◌, ap, refl, sym, subst, ◌∙◌}
use Rattle.std.proofs.lemmas.Result.{err_from_is_err_and}
use Rattle.fabric_turns.specs.Steps.{left_at}
use Rattle.serve_rules.specs.Lives.{happenings}
use Rattle.serve_turns.proofs.Begun.{start_stops, start_told}
use Rattle.serve_turns.proofs.Turning.{comes_to, turn_event}
use Rattle.serve_turns.proofs.start.start.Goals as goal
use Rattle.serve_turns.specs.Live.{Around, At, Live, around}
use Rattle.turn_rules.specs.Happenings.{Begins}
use Rattle.turn_rules.specs.Order.{arrive}

pub returns-in_err-deed-clause-done : goal.returns-in_err-deed-clause-done
returns-in_err-deed-clause-done g c =
    let p = err_from_is_err_and c.from_residual.result c.from_residual.ensures.1 in
    λ o es kept t.
    let plan = c.args.service.now.plan in
    let a : Around = around (g.O.Outside.told c.args.outside.now) (g.C.Clients.told c.args.audience.now.clients) (g.P.Policy.advised c.args.audience.now.policy) in
    let l : Live = record {
      run = c.live.inside.run;
      sessions = c.live.inside.sessions;
      pace = c.live.inside.pace;
      changes = c.live.inside.changes;
      leaving = c.live.inside.leaving;
      ending = c.live.inside.ending;
    } in
    let at : At plan o a l es (arrive plan 0 0) = subst (λ (q : Live). At plan o a q es (arrive plan 0 0)) (sym c.live.view_is) t in
    let k = c.in_err-deed.ensures.done o.kept o.told (happenings plan o.kept o.sessions es) kept at.run in
    rw (p.1, p.2)
    (start_stops plan o (g.O.Outside.told c.args.outside.now) (g.O.Outside.told c.begin.new.outside) (g.C.Clients.told c.args.audience.now.clients) (g.P.Policy.advised c.args.audience.now.policy)
    l (record l { run = c.begin.new.run }) es k.0 (arrive plan 0 0) c.in_err-deed.field-0.0 at (ap (λ (q : Live). q.ending) c.live.view_is ∙ c.requires.can.going) refl refl k.1)

pub returns-clause-done : goal.returns-clause-done
returns-clause-done g c = λ o es kept t.
    let plan = c.args.service.now.plan in
    let a : Around = around (g.O.Outside.told c.args.outside.now) (g.C.Clients.told c.args.audience.now.clients) (g.P.Policy.advised c.args.audience.now.policy) in
    let l : Live = record {
      run = c.live.inside.run;
      sessions = c.live.inside.sessions;
      pace = c.live.inside.pace;
      changes = c.live.inside.changes;
      leaving = c.live.inside.leaving;
      ending = c.live.inside.ending;
    } in
    let at : At plan o a l es (arrive plan 0 0) = subst (λ (q : Live). At plan o a q es (arrive plan 0 0)) (sym c.live.view_is) t in
    let k = c.in_ok-deed.ensures.done o.kept o.told (happenings plan o.kept o.sessions es) kept at.run in
    comes_to plan o (around (g.O.Outside.told c.begin.new.outside) (g.C.Clients.told c.tell_start.new.audience.clients) (g.P.Policy.advised c.tell_start.new.audience.policy)) c.tell_start.new.live
    (turn_event 0 (Begins k.0) ∷ es) (arrive plan 1 0) c.go_on.result
    (start_told plan o (g.O.Outside.told c.args.outside.now) (g.O.Outside.told c.begin.new.outside) (g.C.Clients.told c.args.audience.now.clients) (g.C.Clients.told c.tell_start.new.audience.clients)
    (g.P.Policy.advised c.args.audience.now.policy) (g.P.Policy.advised c.tell_start.new.audience.policy) l c.tell_start.new.live c.begin.new.run es k.0 (arrive plan 0 0) (arrive plan 1 0) c.in_ok-deed.deed
    at (ap (λ (q : Live). q.ending) c.live.view_is ∙ c.requires.can.going) k.1 c.tell_start.ensures.said c.tell_start.ensures.sessions c.tell_start.ensures.rest c.tell_start.ensures.advised (left_at c.tell_start.new.live.run.members 0) refl c.go_on.result c.go_on.ensures)
