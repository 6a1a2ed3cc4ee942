use Rattle.std.proofs.Common.{ℕ, refl, sym, subst}
use Rattle.std.proofs.lemmas.Result.{err_from_is_err_and}
use Rattle.fabric_turns.specs.Runs.{IsStep}
use Rattle.serve_rules.specs.Lives.{happenings}
use Rattle.serve_rules.specs.Services.{life_of}
use Rattle.serve_turns.proofs.Steps.{ends_event, step_quiet, told_reaches}
use Rattle.serve_turns.proofs.stepping.act_told.Goals as goal
use Rattle.serve_turns.specs.Live.{Live, around}
use Rattle.serve_turns.specs.Moves.{Meets}

pub returns-in_err-deed-clause-done : goal.returns-in_err-deed-clause-done
returns-in_err-deed-clause-done g c =
    let p = err_from_is_err_and c.from_residual.result c.from_residual.ensures.1 in
    λ o es e x q turn met is.
    let plan = c.args.service.now.plan in
    let b = around (g.O.Outside.told c.args.outside.now) (g.C.Clients.told c.args.audience.now.clients) (g.P.Policy.advised c.args.audience.now.policy) in
    let d = around (g.O.Outside.told c.act.new.outside) (g.C.Clients.told c.args.audience.now.clients) (g.P.Policy.advised c.args.audience.now.policy) in
    let l : Live = record {
      run = c.live.inside.run;
      sessions = c.live.inside.sessions;
      pace = c.live.inside.pace;
      changes = c.live.inside.changes;
      leaving = c.live.inside.leaving;
      ending = c.live.inside.ending;
    } in
    let m : Meets plan o b l es e x q = subst (λ (k : Live). Meets plan o b k es e x q) (sym c.live.view_is) met in
    rw (p.1, p.2)
    (ends_event plan o b d l (record l { run = c.act.new.run }) es e x q c.in_err-deed.field-0.0 m (step_quiet plan o es e x c.args.input.now is)
    (c.in_err-deed.ensures.done o.kept o.told (happenings plan o.kept o.sessions es) x q m.run
    (subst (λ (n : ℕ). IsStep (life_of plan o.kept) (happenings plan o.kept o.sessions es) x n 0 c.args.input.now) turn is.step))
    refl refl refl refl)

pub returns-clause-done : goal.returns-clause-done
returns-clause-done g c = λ o es e x q turn met is.
    let plan = c.args.service.now.plan in
    let b = around (g.O.Outside.told c.args.outside.now) (g.C.Clients.told c.args.audience.now.clients) (g.P.Policy.advised c.args.audience.now.policy) in
    let d = around (g.O.Outside.told c.act.new.outside) (g.C.Clients.told c.tell.new.audience.clients) (g.P.Policy.advised c.tell.new.audience.policy) in
    let l : Live = record {
      run = c.live.inside.run;
      sessions = c.live.inside.sessions;
      pace = c.live.inside.pace;
      changes = c.live.inside.changes;
      leaving = c.live.inside.leaving;
      ending = c.live.inside.ending;
    } in
    let m : Meets plan o b l es e x q = subst (λ (k : Live). Meets plan o b k es e x q) (sym c.live.view_is) met in
    told_reaches plan o b d l c.act.new.run c.tell.new.live es e x q c.args.input.now c.in_ok-deed.deed c.go_on.result m is
    (c.in_ok-deed.ensures.done o.kept o.told (happenings plan o.kept o.sessions es) x q m.run
    (subst (λ (n : ℕ). IsStep (life_of plan o.kept) (happenings plan o.kept o.sessions es) x n 0 c.args.input.now) turn is.step))
    c.tell.ensures.said c.tell.ensures.sessions c.tell.ensures.pace c.tell.ensures.rest c.tell.ensures.advised c.go_on.ensures
