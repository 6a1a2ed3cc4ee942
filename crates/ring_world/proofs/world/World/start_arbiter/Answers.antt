use Rattle.std.proofs.Common.{◌≡◌, true, false, refl, sym, ap, ◌∙◌, None, List}
use Rattle.std.specs.Prelude.{is_some}
use Rattle.fabric_terms.specs.declared.event.Event.TheVariants.{Start}
use Rattle.fabric_terms.specs.declared.report.Report.{Report}
use Rattle.ring_points.specs.Whos.{node_instance}
use Rattle.world_rules.specs.Events.{arbiter_number}
use Rattle.fabric_lemmas.specs.Maps.{at}
use Rattle.ring_world.proofs.Limits.{room_is, room_test, same_world, bound-start, few_events}
use Rattle.ring_world.proofs.ArbiterStartNames.{configured, unconfigured, start_there, start_is}
use Rattle.ring_world.proofs.Seats.{runs_at, seat_here}
use Rattle.ring_world.proofs.ArbiterStart.{start_arbiter_moves}
use Rattle.ring_world.proofs.world.World.start_arbiter.Goals as goal

pub returns-in_default : goal.returns-in_default
returns-in_default c w s =
    let a = c.args.self.now in
    (start_there a w s c.args.actor false (is_some (at (arbiter_number c.args.actor) w.arbiters)) (unconfigured a w s c.args.actor c.requires.actor c.in_default.ensures) refl, same_world a)

pub returns-then-index : goal.returns-then-index
returns-then-index c w s =
    let a = c.args.self.now in
    let there = configured a w s c.args.actor c.in-Some.place c.in-Some.ensures.0 c.in-Some.ensures.1 in
    let runs = runs_at a w c.args.actor c.in-Some.place c.index.result.now s c.in-Some.ensures.0 c.in-Some.ensures.1 c.index.ensures in
    (start_there a w s c.args.actor true true there (runs ∙ c.if-index.true), same_world a)

pub returns-then-not-may_act : goal.returns-then-not-may_act
returns-then-not-may_act c w s =
    let a = c.args.self.now in
    let there = configured a w s c.args.actor c.in-Some.place c.in-Some.ensures.0 c.in-Some.ensures.1 in
    let runs = runs_at a w c.args.actor c.in-Some.place c.index.result.now s c.in-Some.ensures.0 c.in-Some.ensures.1 c.index.ensures in
    let full : room_test a true ≡ false = sym c.may_act.ensures ∙ c.if-not-may_act.true in
    ((start_there a w s c.args.actor true false there (runs ∙ c.if-index.false), bound-start a w c.args.actor None, room_is a w (Start c.args.actor None) true s refl refl ∙ full), same_world a)

pub returns : goal.returns
returns c w s =
    let a = c.args.self.now in
    let place = c.in-Some.place in
    let q = c.index_mut-seat.result.now in
    let lt = c.in-Some.ensures.1 in
    let there = configured a w s c.args.actor place c.in-Some.ensures.0 lt in
    let runs = runs_at a w c.args.actor place c.index.result.now s c.in-Some.ensures.0 lt c.index.ensures in
    let room : room_test a true ≡ true = sym c.may_act.ensures ∙ c.if-not-may_act.false in (
      record {
        there = start_there a w s c.args.actor true false there (runs ∙ c.if-index.false);
        bound = bound-start a w c.args.actor None;
        room = room_is a w (Start c.args.actor None) true s refl refl ∙ room;
      },
      start_arbiter_moves a w place q s (seat_here a place q lt c.index_mut-seat.ensures.value) lt (few_events a true room)
          _ _ _ _ c.args.actor c.in-Some.ensures.0 (start_is a w s c.args.actor)
          refl
          refl
          (ap (λ (rs : List Report). record { line = c.args.line; time = a.time; who = node_instance c.args.actor 0; reading = None; sent = (0, 0); reports = rs }) (c.new-2.ensures ∙ c.new.ensures.items)),
    )
