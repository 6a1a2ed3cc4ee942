use Rattle.std.proofs.Common.{◌≡◌, true, false, None, Some, refl, sym, ap, subst, ◌∙◌}
use Rattle.std.specs.Prelude.{is_some}
use Rattle.std.proofs.lemmas.Result.{err_from_is_err_and}
use Rattle.fabric_terms.specs.declared.event.Event.TheVariants.{Give}
use Rattle.fabric_terms.specs.declared.message.Message.{Message}
use Rattle.frame_bag.specs.Bags.{frame_of}
use Rattle.unit_rules.specs.Fabric.{fabric}
use Rattle.world_rules.specs.Worlds.{Stepped}
use Rattle.ring_world.specs.Moves.{Moves}
use Rattle.ring_world.proofs.GiveNames.{can_arrive, give_absent, give_is, give_there, sound_frame}
use Rattle.ring_world.proofs.Limits.{room_is, room_test, same_world, bound-give}
use Rattle.ring_world.proofs.world.World.take_give.Goals as goal

pub returns-then-not-read : goal.returns-then-not-read
returns-then-not-read c w s =
    let none : frame_of c.args.number c.args.self.now.frames.frames ≡ None = c.read.ensures.none c.if-not-read.true in
    (give_absent c.args.self.now w c.args.number s none, same_world c.args.self.now)

pub returns-then-not-may_act : goal.returns-then-not-may_act
returns-then-not-may_act c w s =
    let a = c.args.self.now in
    let got : frame_of c.args.number a.frames.frames ≡ Some c.read.new.into = c.read.ensures.read c.if-not-read.false in
    let full : room_test a true ≡ false = sym c.may_act.ensures ∙ c.if-not-may_act.true in
    ((give_there a w c.args.number s c.read.new.into got, bound-give a w c.args.number, room_is a w (Give c.args.number) true s refl refl ∙ full), same_world a)

pub reach-requires-clause-can : goal.reach-requires-clause-can
reach-requires-clause-can c =
    let a = c.args.self.now in
    let same : c.read.new.into ≡ c.in-Frame-input.message = cc in
    let got : frame_of c.args.number a.frames.frames ≡ Some c.in-Frame-input.message = c.read.ensures.read c.if-not-read.false ∙ ap (λ (x : Message). Some x) same in
    can_arrive a c.args.number c.in-Frame-input.message c.requires.world c.requires.fits got

pub reach-requires-clause-sound : goal.reach-requires-clause-sound
reach-requires-clause-sound c =
    let a = c.args.self.now in
    let same : c.read.new.into ≡ c.in-Frame-input.message = cc in
    let got : frame_of c.args.number a.frames.frames ≡ Some c.in-Frame-input.message = c.read.ensures.read c.if-not-read.false ∙ ap (λ (x : Message). Some x) same in
    sound_frame a c.args.number c.in-Frame-input.message c.requires.world got

pub returns-in_err-reach : goal.returns-in_err-reach
returns-in_err-reach c w s =
    let a = c.args.self.now in
    let m = c.in-Frame-input.message in
    let same : c.read.new.into ≡ m = cc in
    let got : frame_of c.args.number a.frames.frames ≡ Some m = c.read.ensures.read c.if-not-read.false ∙ ap (λ (x : Message). Some x) same in
    let room : room_test a true ≡ true = sym c.may_act.ensures ∙ c.if-not-may_act.false in
    let short = c.in_err-reach.ensures w s in
    let p = err_from_is_err_and c.from_residual.result c.from_residual.ensures.1 in
    rw (p.1, p.2) (
      (
        record {
          there = give_there a w c.args.number s m got;
          bound = bound-give a w c.args.number;
          room = room_is a w (Give c.args.number) true s refl refl ∙ room;
        },
        ap (λ (x : Stepped fabric). is_some x.entry) (give_is a w c.args.number s m got) ∙ short.0,
      ),
      short.1,
    )

pub returns : goal.returns
returns c w s =
    let a = c.args.self.now in
    let m = c.in-Frame-input.message in
    let same : c.read.new.into ≡ m = cc in
    let got : frame_of c.args.number a.frames.frames ≡ Some m = c.read.ensures.read c.if-not-read.false ∙ ap (λ (x : Message). Some x) same in
    let room : room_test a true ≡ true = sym c.may_act.ensures ∙ c.if-not-may_act.false in (
      record {
        there = give_there a w c.args.number s m got;
        bound = bound-give a w c.args.number;
        room = room_is a w (Give c.args.number) true s refl refl ∙ room;
      },
      subst (λ (x : Stepped fabric). Moves a c.reach.new.self x c.args.line c.in_ok-reach.field-0) (sym (give_is a w c.args.number s m got)) (c.in_ok-reach.ensures w s),
    )
