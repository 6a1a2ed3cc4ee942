use Rattle.std.proofs.Common.{◌≡◌, true, false, sym, ◌∙◌}
use Rattle.std.proofs.lemmas.Result.{err_from_is_err_and}
use Rattle.ring_rules.specs.declared.input.Input.TheVariants as input
use Rattle.fabric_terms.specs.declared.event.Event.TheVariants.{Fire}
use Rattle.ring_world.proofs.InputNames.{fire_acts, fire_there, fire_absent}
use Rattle.ring_world.proofs.Limits.{room_is, room_test, same_world}
use Rattle.ring_world.proofs.NextEvents.{can_act, act_done, act_short}
use Rattle.ring_world.proofs.world.World.take_fire.Goals as goal

pub returns-in_default : goal.returns-in_default
returns-in_default c w s = (fire_absent c.args.self.now w c.args.node (c.in_default.ensures w s), same_world c.args.self.now)

pub returns-then-not-may_act : goal.returns-then-not-may_act
returns-then-not-may_act c w s =
    let a = c.args.self.now in
    let acts = fire_acts a w c.args.node in
    let full : room_test a true ≡ false = sym c.may_act.ensures ∙ c.if-not-may_act.true in (
      (fire_there a w c.args.node c.in-Some.place (c.in-Some.ensures w s), acts.bound, room_is a w (Fire c.args.node) true s acts.acts acts.still ∙ full),
      same_world a,
    )

pub step_at-requires-clause-can : goal.step_at-requires-clause-can
step_at-requires-clause-can c =
    let a = c.args.self.now in
    can_act a c.args.node c.in-Some.place input.Fire (Fire c.args.node) c.requires.world c.requires.fits (λ w. fire_acts a w c.args.node)
    (λ w s. fire_there a w c.args.node c.in-Some.place (c.in-Some.ensures w s)) c.in-Some.ensures

pub returns-in_err-step_at : goal.returns-in_err-step_at
returns-in_err-step_at c w s =
    let a = c.args.self.now in
    let k = c.in-Some.ensures w s in
    let room : room_test a true ≡ true = sym c.may_act.ensures ∙ c.if-not-may_act.false in
    let p = err_from_is_err_and c.from_residual.result c.from_residual.ensures.1 in
    rw (p.1, p.2) (act_short a c.step_at.new.self w c.args.node input.Fire (Fire c.args.node) k.value (fire_acts a w c.args.node) s
    (fire_there a w c.args.node c.in-Some.place k) room k.found (c.in_err-step_at.ensures w c.args.node k.value s k.here k.found))

pub returns : goal.returns
returns c w s =
    let a = c.args.self.now in
    let k = c.in-Some.ensures w s in
    let room : room_test a true ≡ true = sym c.may_act.ensures ∙ c.if-not-may_act.false in
    act_done a c.step_at.new.self w c.args.node input.Fire (Fire c.args.node) k.value c.args.line c.in_ok-step_at.field-0 (fire_acts a w c.args.node) s
    (fire_there a w c.args.node c.in-Some.place k) room k.found (c.in_ok-step_at.ensures w c.args.node k.value s k.here k.found)
