use Rattle.std.proofs.Common.{◌≡◌, ℕ, ◌+◌, true, false, refl, sym, ap, ◌∙◌, Some, None, List}
use Rattle.std.specs.Prelude.{is_some}
use Rattle.std.proofs.lemmas.Result.{err_from_is_err_and}
use Rattle.fabric_terms.specs.declared.event.Event.TheVariants.{Stop}
use Rattle.fabric_terms.specs.declared.report.Report.{Report}
use Rattle.ring_points.specs.Whos.{node_instance}
use Rattle.world_rules.specs.Events.{world_step, arbiter_stops}
use Rattle.fabric_lemmas.specs.Maps.{at}
use Rattle.unit_rules.specs.Fabric.{fabric}
use Rattle.world_rules.specs.Schedules.{runs}
use Rattle.world_rules.specs.Worlds.{Stepped}
use Rattle.ring_world.specs.ConfiguredArbiters.{state_of}
use Rattle.ring_world.proofs.Limits.{room_is, room_test, same_world, bound-stop, few_events}
use Rattle.ring_world.proofs.Seats.{runs_here, runs_nowhere, seat_here, seat_actor, seat_number, running_at}
use Rattle.ring_world.proofs.StopNames.{stop_runs, stop_arbiter_is}
use Rattle.ring_world.proofs.ArbiterStop.{stop_arbiter_moves}
use Rattle.ring_world.proofs.world.World.stop_arbiter.Goals as goal

pub returns-in_default : goal.returns-in_default
returns-in_default c w s = (stop_runs c.args.self.now w c.args.actor false (runs_nowhere c.args.self.now w c.args.actor s c.requires c.in_default.ensures), same_world c.args.self.now)

pub returns-then-not-index : goal.returns-then-not-index
returns-then-not-index c w s =
    let a = c.args.self.now in
    let runs : runs w c.args.actor ≡ false =
    runs_here a w c.args.actor c.in-Some.place c.index.result.now s c.in-Some.ensures.0 c.in-Some.ensures.1 c.index.ensures ∙ c.if-not-index.true in
    (stop_runs a w c.args.actor false runs, same_world a)

pub returns-then-not-may_come : goal.returns-then-not-may_come
returns-then-not-may_come c w s =
    let a = c.args.self.now in
    let runs : runs w c.args.actor ≡ true =
    runs_here a w c.args.actor c.in-Some.place c.index.result.now s c.in-Some.ensures.0 c.in-Some.ensures.1 c.index.ensures ∙ c.if-not-index.false in
    let full : room_test a false ≡ false = sym c.may_come.ensures ∙ c.if-not-may_come.true in
    ((stop_runs a w c.args.actor true runs, bound-stop a w c.args.actor, room_is a w (Stop c.args.actor) false s refl refl ∙ full), same_world a)

pub returns-in_err-reports : goal.returns-in_err-reports
returns-in_err-reports c w s =
    let a = c.args.self.now in
    let place = c.in-Some.place in
    let lt = c.in-Some.ensures.1 in
    let runs : runs w c.args.actor ≡ true = runs_here a w c.args.actor place c.index.result.now s c.in-Some.ensures.0 lt c.index.ensures ∙ c.if-not-index.false in
    let room : room_test a false ≡ true = sym c.may_come.ensures ∙ c.if-not-may_come.false in
    let t = running_at a w place c.index.result.now s lt c.index.ensures c.if-not-index.false in
    let step : world_step fabric a.config w (Stop c.args.actor) ≡ arbiter_stops fabric w (place + 1) (Some (state_of c.index.result.now.arbiter)) =
    stop_arbiter_is a w c.args.actor (seat_actor c.args.actor place c.in-Some.ensures.0)
    ∙ (ap (λ k. arbiter_stops fabric w k (at k w.arbiters)) (seat_number c.args.actor place c.in-Some.ensures.0) ∙ ap (λ o. arbiter_stops fabric w (place + 1) o) t) in
    let p = err_from_is_err_and c.from_residual.result c.from_residual.ensures.1 in
    rw (p.1, p.2) (
      (
        record {
          there = stop_runs a w c.args.actor true runs;
          bound = bound-stop a w c.args.actor;
          room = room_is a w (Stop c.args.actor) false s refl refl ∙ room;
        },
        ap (λ (x : Stepped fabric). is_some x.entry) step,
      ),
      same_world a,
    )

pub returns : goal.returns
returns c w s =
    let a = c.args.self.now in
    let place = c.in-Some.place in
    let q = c.index_mut-seat.result.now in
    let lt = c.in-Some.ensures.1 in
    let runs : runs w c.args.actor ≡ true = runs_here a w c.args.actor place c.index.result.now s c.in-Some.ensures.0 lt c.index.ensures ∙ c.if-not-index.false in
    let room : room_test a false ≡ true = sym c.may_come.ensures ∙ c.if-not-may_come.false in
    let t = running_at a w place c.index.result.now s lt c.index.ensures c.if-not-index.false in
    let step : world_step fabric a.config w (Stop c.args.actor) ≡ arbiter_stops fabric w (place + 1) (Some (state_of c.index.result.now.arbiter)) =
    stop_arbiter_is a w c.args.actor (seat_actor c.args.actor place c.in-Some.ensures.0)
    ∙ (ap (λ k. arbiter_stops fabric w k (at k w.arbiters)) (seat_number c.args.actor place c.in-Some.ensures.0) ∙ ap (λ o. arbiter_stops fabric w (place + 1) o) t) in (
      record {
        there = stop_runs a w c.args.actor true runs;
        bound = bound-stop a w c.args.actor;
        room = room_is a w (Stop c.args.actor) false s refl refl ∙ room;
      },
      stop_arbiter_moves a w place q (state_of c.index.result.now.arbiter) s (seat_here a place q lt c.index_mut-seat.ensures.value) lt
          (few_events a false room) _ _ _ _ (node_instance c.args.actor 0) step
          refl
          refl
          (ap (λ (n : ℕ). node_instance n 0) c.in-Some.ensures.0)
          (ap (λ (rs : List Report). record { line = c.args.line; time = a.time; who = node_instance c.args.actor 0; reading = None; sent = (0, 0); reports = rs }) c.in_ok-reports.ensures),
    )
