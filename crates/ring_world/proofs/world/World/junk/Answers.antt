use Rattle.std.proofs.Common.{◌≡◌, true, false, refl, sym, subst, ◌∙◌, None}
use Rattle.fabric_terms.specs.declared.event.Event.TheVariants.{Junk}
use Rattle.unit_rules.specs.Fabric.{fabric}
use Rattle.world_rules.specs.Schedules.{runs}
use Rattle.world_rules.specs.Worlds.{Stepped}
use Rattle.world_rules.proofs.Rows.{world_step-junk}
use Rattle.frame_format.specs.Kinds.{is_frame}
use Rattle.ring_world.specs.Moves.{Moves}
use Rattle.ring_world.proofs.Limits.{room_is, room_test, same_world, bound-junk}
use Rattle.ring_world.proofs.StopNames.{junk_runs}
use Rattle.ring_world.proofs.world.World.junk.Goals as goal

pub returns-then-not-runs : goal.returns-then-not-runs
returns-then-not-runs c w line s =
    let none : runs w c.args.actor ≡ false = sym (c.runs.ensures w s) ∙ c.if-not-runs.true in
    (junk_runs c.args.self.now w c.args.actor c.args.bytes.now false (is_frame c.args.bytes.now) none refl, same_world c.args.self.now)

pub returns-then-is_frame : goal.returns-then-is_frame
returns-then-is_frame c w line s =
    let there : runs w c.args.actor ≡ true = sym (c.runs.ensures w s) ∙ c.if-not-runs.false in
    let frame : is_frame c.args.bytes.now ≡ true = sym c.is_frame.ensures ∙ c.if-is_frame.true in
    (junk_runs c.args.self.now w c.args.actor c.args.bytes.now true true there frame, same_world c.args.self.now)

pub returns-then-not-may_come : goal.returns-then-not-may_come
returns-then-not-may_come c w line s =
    let a = c.args.self.now in
    let there : runs w c.args.actor ≡ true = sym (c.runs.ensures w s) ∙ c.if-not-runs.false in
    let frame : is_frame c.args.bytes.now ≡ false = sym c.is_frame.ensures ∙ c.if-is_frame.false in
    let full : room_test a false ≡ false = sym c.may_come.ensures ∙ c.if-not-may_come.true in (
      (junk_runs a w c.args.actor c.args.bytes.now true false there frame, bound-junk a w c.args.actor c.args.bytes.now, room_is a w (Junk c.args.actor c.args.bytes.now) false s refl refl ∙ full),
      same_world a,
    )

pub returns : goal.returns
returns c w line s =
    let a = c.args.self.now in
    let e = Junk c.args.actor c.args.bytes.now in
    let there : runs w c.args.actor ≡ true = sym (c.runs.ensures w s) ∙ c.if-not-runs.false in
    let frame : is_frame c.args.bytes.now ≡ false = sym c.is_frame.ensures ∙ c.if-is_frame.false in
    let room : room_test a false ≡ true = sym c.may_come.ensures ∙ c.if-not-may_come.false in (
      record {
        there = junk_runs a w c.args.actor c.args.bytes.now true false there frame;
        bound = bound-junk a w c.args.actor c.args.bytes.now;
        room = room_is a w e false s refl refl ∙ room;
      },
      subst (λ (st : Stepped fabric). Moves a c.pass.new.self st line None) (sym (world_step-junk fabric a.config w c.args.actor c.args.bytes.now)) (c.pass.ensures w line s),
    )
