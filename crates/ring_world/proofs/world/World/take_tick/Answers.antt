use Rattle.std.proofs.Common.{◌≡◌, ◌+◌, true, false, sym, ap, ◌∙◌}
use Rattle.ring_world.specs.declared.world.World.{World}
use Rattle.ring_world.proofs.Limits.{few_events, room_test, same_world}
use Rattle.ring_world.proofs.TickStep.{seen_ticked, tick_bound, tick_broken, tick_full, tick_in_time, tick_late, tick_moves, tick_of, tick_there}
use Rattle.ring_world.proofs.world.World.take_tick.Goals as goal
use Rattle.ring_world.proofs.world.World.take_tick.Goals.{then-not-may_come-via-then-not-may_come, then-not-may_come-via-else-not-may_come+then-time-gt-MAX_READING}

pub returns-then-not-are_of-clause-comes : goal.returns-then-not-are_of-clause-comes
returns-then-not-are_of-clause-comes c w line s =
    let a = c.args.self.now in
    let rs = c.args.readings.now in
    let other = tick_of a w c.args.advance rs s c.deref.result.now false c.deref.ensures.value (sym c.are_of.ensures ∙ c.if-not-are_of.true) in
    (tick_there a w c.args.advance rs s false other, same_world a)

pub first_broken-requires-clause-can : goal.first_broken-requires-clause-can
first_broken-requires-clause-can c =
    let can = c.requires.can in
    (can.0, can.1, tick_of c.args.self.now can.0 c.args.advance c.args.readings.now can.1 c.deref.result.now true c.deref.ensures.value (sym c.are_of.ensures ∙ c.if-not-are_of.false))

pub returns-in-Some-clause-comes : goal.returns-in-Some-clause-comes
returns-in-Some-clause-comes c w line s =
    let a = c.args.self.now in
    let rs = c.args.readings.now in
    let of = tick_of a w c.args.advance rs s c.deref.result.now true c.deref.ensures.value (sym c.are_of.ensures ∙ c.if-not-are_of.false) in
    let bound = tick_bound a w c.args.advance rs s false (sym (c.in-Some.ensures.fits w s of)) in
    let broken = tick_broken a w c.args.advance rs s _ (sym (c.in-Some.ensures.broken w s of)) in
    ((tick_there a w c.args.advance rs s true of, bound, broken), same_world a)

pub returns-then-not-may_come-clause-comes : goal.returns-then-not-may_come-clause-comes
returns-then-not-may_come-clause-comes c w line s =
    let a = c.args.self.now in
    let rs = c.args.readings.now in
    let of = tick_of a w c.args.advance rs s c.deref.result.now true c.deref.ensures.value (sym c.are_of.ensures ∙ c.if-not-are_of.false) in
    let there = tick_there a w c.args.advance rs s true of in
    let bound = tick_bound a w c.args.advance rs s true (sym (c.in_default.ensures.fits w s of)) in
    elim c.then-not-may_come.branch [
      | then-not-may_come-via-then-not-may_come b ↦
          let full : room_test a false ≡ false = sym c.may_come.ensures ∙ b.if-not-may_come.true in
          ((there, bound, tick_full a w c.args.advance rs s full), same_world a)
      | then-not-may_come-via-else-not-may_come+then-time-gt-MAX_READING b ↦
          ((there, bound, tick_late a w c.args.advance rs s b.if-time-gt-MAX_READING.true), same_world a)
    ]

pub show-requires-clause-can : goal.show-requires-clause-can
show-requires-clause-can c =
    let can = c.requires.can in
    (can.0, can.1, tick_of c.args.self.now can.0 c.args.advance c.args.readings.now can.1 c.deref.result.now true c.deref.ensures.value (sym c.are_of.ensures ∙ c.if-not-are_of.false))

pub show-requires-clause-fit : goal.show-requires-clause-fit
show-requires-clause-fit c w s =
    sym (c.in_default.ensures.fits w s (tick_of c.args.self.now w c.args.advance c.args.readings.now s c.deref.result.now true c.deref.ensures.value (sym c.are_of.ensures ∙ c.if-not-are_of.false)))

pub returns-clause-comes : goal.returns-clause-comes
returns-clause-comes c w line s =
    let a = c.args.self.now in
    let rs = c.args.readings.now in
    let of = tick_of a w c.args.advance rs s c.deref.result.now true c.deref.ensures.value (sym c.are_of.ensures ∙ c.if-not-are_of.false) in
    let room : room_test a false ≡ true = sym c.may_come.ensures ∙ c.if-not-may_come.false in (
      record {
        there = tick_there a w c.args.advance rs s true of;
        bound = tick_bound a w c.args.advance rs s true (sym (c.in_default.ensures.fits w s of));
        room = tick_in_time a w c.args.advance rs s room c.if-time-gt-MAX_READING.false;
      },
      tick_moves a w c.args.advance rs c.show.new.self.running.items c.show.new.self.clocks.items s (c.show.ensures.shown w s of) (few_events a false room) c.if-time-gt-MAX_READING.false _ line
          (seen_ticked a c.show.new.self (a.time + c.args.advance) c.show.ensures.rest)
          (ap (λ (x : World). x.places) c.show.ensures.rest),
    )
