use Rattle.std.proofs.Common.{◌∷◌, ap, refl, sym, subst, ◌∙◌}
use Rattle.std.proofs.lemmas.Result.{err_from_is_err_and}
use Rattle.fabric_turns.specs.Moves.{at_place}
use Rattle.serve_turns.proofs.Reading.{begins, reading_stops, turn_can}
use Rattle.serve_turns.proofs.Turning.{turn_event}
use Rattle.serve_turns.proofs.turns.read_turn.Goals as goal
use Rattle.serve_turns.specs.Live.{Around, At, Live, around}
use Rattle.serve_turns.specs.Steps.{CanGoOn}
use Rattle.turn_rules.specs.Happenings.{Turns}
use Rattle.turn_rules.specs.Order.{Turning}

pub returns-in_err-read_clock-clause-done : goal.returns-in_err-read_clock-clause-done
returns-in_err-read_clock-clause-done g c =
    let p = err_from_is_err_and c.from_residual.result c.from_residual.ensures.1 in
    λ plan turn can o es t.
    let a : Around = around (g.O.Outside.told c.args.outside.now) (g.C.Clients.told c.args.audience.now.clients) (g.P.Policy.advised c.args.audience.now.policy) in
    let l : Live = record {
      run = c.live.inside.run;
      sessions = c.live.inside.sessions;
      pace = c.live.inside.pace;
      changes = c.live.inside.changes;
      leaving = c.live.inside.leaving;
      ending = c.live.inside.ending;
    } in
    let at : At plan o a l es (at_place turn 0 Turning) = subst (λ (q : Live). At plan o a q es (at_place turn 0 Turning)) (sym c.live.view_is) t in
    rw (p.1, p.2)
    (reading_stops plan o (g.O.Outside.told c.args.outside.now) (g.O.Outside.told c.read_clock.new.outside) (g.C.Clients.told c.args.audience.now.clients) (g.P.Policy.advised c.args.audience.now.policy)
    l (record l { run = c.read_clock.new.run }) es turn c.in_err-read_clock.field-0.0 at (ap (λ (q : Live). q.ending) c.live.view_is ∙ can.going) refl refl c.in_err-read_clock.ensures.reads)

pub returns-clause-done : goal.returns-clause-done
returns-clause-done g c = λ plan turn can o es t.
    let a : Around = around (g.O.Outside.told c.args.outside.now) (g.C.Clients.told c.args.audience.now.clients) (g.P.Policy.advised c.args.audience.now.policy) in
    let l : Live = record {
      run = c.live.inside.run;
      sessions = c.live.inside.sessions;
      pace = c.live.inside.pace;
      changes = c.live.inside.changes;
      leaving = c.live.inside.leaving;
      ending = c.live.inside.ending;
    } in
    let at : At plan o a l es (at_place turn 0 Turning) = subst (λ (q : Live). At plan o a q es (at_place turn 0 Turning)) (sym c.live.view_is) t in (
      turn_event turn (Turns c.in_ok-read_clock.field-0) ∷ es,
      begins plan o (g.O.Outside.told c.args.outside.now) (g.O.Outside.told c.read_clock.new.outside) (g.C.Clients.told c.args.audience.now.clients) (g.C.Clients.told c.pass.new.clients) (g.P.Policy.advised c.args.audience.now.policy)
          l c.see_changes.new.live c.read_clock.new.run es turn c.in_ok-read_clock.field-0 at (ap (λ (q : Live). q.ending) c.live.view_is ∙ can.going) can.service.free c.in_ok-read_clock.ensures.reads
          c.present-now.result c.present-now.ensures c.pass.ensures.said
          (ap (λ (q : Live). q.sessions) c.see_changes.ensures.rest ∙ c.pass.ensures.after) c.see_changes.ensures.changes
          (ap (λ (q : Live). q.run) c.see_changes.ensures.rest) (ap (λ (q : Live). q.pace) c.see_changes.ensures.rest) (ap (λ (q : Live). q.leaving) c.see_changes.ensures.rest) (ap (λ (q : Live). q.ending) c.see_changes.ensures.rest),
    )

pub returns-clause-can : goal.returns-clause-can
returns-clause-can g c = λ plan can.
    let l : Live = record {
      run = c.live.inside.run;
      sessions = c.live.inside.sessions;
      pace = c.live.inside.pace;
      changes = c.live.inside.changes;
      leaving = c.live.inside.leaving;
      ending = c.live.inside.ending;
    } in
    turn_can plan l c.see_changes.new.live c.read_clock.new.run (g.O.Outside.told c.args.outside.now) (g.O.Outside.told c.read_clock.new.outside) c.in_ok-read_clock.field-0
    (subst (λ (q : Live). CanGoOn plan q (g.O.Outside.told c.args.outside.now)) (sym c.live.view_is) can) c.in_ok-read_clock.ensures.reads
    (ap (λ (q : Live). q.run) c.see_changes.ensures.rest) (ap (λ (q : Live). q.ending) c.see_changes.ensures.rest)
