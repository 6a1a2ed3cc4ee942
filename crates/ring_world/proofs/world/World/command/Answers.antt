use Rattle.std.proofs.Common.{◌≡◌, true, false, sym, ◌∙◌}
use Rattle.std.proofs.lemmas.Result.{err_from_is_err_and}
use Rattle.ring_rules.specs.declared.input.Input.TheVariants as input
use Rattle.fabric_terms.specs.declared.event.Event.TheVariants.{Do}
use Rattle.world_rules.specs.Schedules.{command_names}
use Rattle.ring_world.proofs.InputNames.{do_acts, do_there, do_absent, do_unnamed}
use Rattle.ring_world.proofs.Limits.{room_is, room_test, same_world}
use Rattle.ring_world.proofs.NextEvents.{can_act, act_done, act_short}
use Rattle.ring_world.proofs.world.World.command.Goals as goal

pub returns-in_default : goal.returns-in_default
returns-in_default c w s = (do_absent c.args.self.now w c.args.node c.args.command.now (c.in_default.ensures w s), same_world c.args.self.now)

pub returns-then-not-is_named : goal.returns-then-not-is_named
returns-then-not-is_named c w s =
    let named : command_names c.args.self.now.config c.args.node c.args.command.now ≡ false = sym c.is_named.ensures ∙ c.if-not-is_named.true in
    (do_unnamed c.args.self.now w c.args.node c.in-Some.place c.args.command.now (c.in-Some.ensures w s) named, same_world c.args.self.now)

pub returns-then-not-may_act : goal.returns-then-not-may_act
returns-then-not-may_act c w s =
    let a = c.args.self.now in
    let d = c.args.command.now in
    let acts = do_acts a w c.args.node d in
    let named : command_names a.config c.args.node d ≡ true = sym c.is_named.ensures ∙ c.if-not-is_named.false in
    let full : room_test a true ≡ false = sym c.may_act.ensures ∙ c.if-not-may_act.true in (
      (do_there a w c.args.node c.in-Some.place d (c.in-Some.ensures w s) named, acts.bound, room_is a w (Do c.args.node d) true s acts.acts acts.still ∙ full),
      same_world a,
    )

pub step_at-requires-clause-can : goal.step_at-requires-clause-can
step_at-requires-clause-can c =
    let a = c.args.self.now in
    let d = c.args.command.now in
    let named : command_names a.config c.args.node d ≡ true = sym c.is_named.ensures ∙ c.if-not-is_named.false in
    rw c.copy_of.ensures (can_act a c.args.node c.in-Some.place (input.Do d) (Do c.args.node d) c.requires.world c.requires.fits (λ w. do_acts a w c.args.node d)
    (λ w s. do_there a w c.args.node c.in-Some.place d (c.in-Some.ensures w s) named) c.in-Some.ensures)

pub returns-in_err-step_at : goal.returns-in_err-step_at
returns-in_err-step_at c w s =
    let a = c.args.self.now in
    let d = c.args.command.now in
    let k = c.in-Some.ensures w s in
    let named : command_names a.config c.args.node d ≡ true = sym c.is_named.ensures ∙ c.if-not-is_named.false in
    let room : room_test a true ≡ true = sym c.may_act.ensures ∙ c.if-not-may_act.false in
    let p = err_from_is_err_and c.from_residual.result c.from_residual.ensures.1 in
    rw (p.1, p.2) (act_short a c.step_at.new.self w c.args.node (input.Do d) (Do c.args.node d) k.value (do_acts a w c.args.node d) s
    (do_there a w c.args.node c.in-Some.place d k named) room k.found (c.in_err-step_at.ensures w c.args.node k.value s k.here k.found))

pub returns : goal.returns
returns c w s =
    let a = c.args.self.now in
    let d = c.args.command.now in
    let k = c.in-Some.ensures w s in
    let named : command_names a.config c.args.node d ≡ true = sym c.is_named.ensures ∙ c.if-not-is_named.false in
    let room : room_test a true ≡ true = sym c.may_act.ensures ∙ c.if-not-may_act.false in
    act_done a c.step_at.new.self w c.args.node (input.Do d) (Do c.args.node d) k.value c.args.line c.in_ok-step_at.field-0 (do_acts a w c.args.node d) s
    (do_there a w c.args.node c.in-Some.place d k named) room k.found (rw c.copy_of.ensures at (c.in_ok-step_at.ensures w c.args.node k.value s k.here k.found))
