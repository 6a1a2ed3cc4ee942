use Rattle.std.proofs.Common.{◌≡◌, true, false, None, Some, sym, ap, subst, ◌∙◌, arith}
use Rattle.std.specs.Prelude.{is_some}
use Rattle.std.proofs.lemmas.Result.{err_from_is_err_and}
use Rattle.unit_rules.specs.Fabric.{fabric}
use Rattle.world_rules.specs.Worlds.{Stepped}
use Rattle.ring_world.specs.Moves.{Moves}
use Rattle.ring_world.specs.Steps.{LeavesSound}
use Rattle.ring_world.proofs.NodePlaces.{placed}
use Rattle.ring_world.proofs.Arrivals.{is_meant_for, lost_at_node, lost_to_instance, reaches_instance}
use Rattle.ring_world.proofs.world.World.reach_node.Goals as goal

pub returns-in_default : goal.returns-in_default
returns-in_default c w s =
    let a = c.args.self.now in
    subst (λ (x : Stepped fabric). Moves a c.pass.new.self x c.args.line None) (sym (lost_at_node a w c.args.message.now (c.in_default.ensures w s))) (c.pass.ensures w c.args.line s)

pub index-requires : goal.index-requires
index-requires c =
    let can = c.requires.can in
    let k = c.in-Some.ensures can.0 can.1 in
    let here = placed c.args.self.now can.0 c.in-Some.place c.args.message.now.to.actor k.value can.1 k.here in
    omega (arith, here.clock_within)

pub returns-then-not-is_meant : goal.returns-then-not-is_meant
returns-then-not-is_meant c w s =
    let a = c.args.self.now in
    let k = c.in-Some.ensures w s in
    let other : is_meant_for c.args.message.now.to c.index.result.now.0 ≡ false = sym c.is_meant.ensures ∙ c.if-not-is_meant.true in
    subst (λ (x : Stepped fabric). Moves a c.pass-then-not-is_meant.new.self x c.args.line None) (sym (lost_to_instance a w c.args.message.now c.in-Some.place c.index.result.now s k c.index.ensures other)) (c.pass-then-not-is_meant.ensures w c.args.line s)

pub step_at-requires-clause-can : goal.step_at-requires-clause-can
step_at-requires-clause-can c =
    let a = c.args.self.now in
    let can = c.requires.can in
    let k = c.in-Some.ensures can.0 can.1 in
    let meant : is_meant_for c.args.message.now.to c.index.result.now.0 ≡ true = sym c.is_meant.ensures ∙ c.if-not-is_meant.false in (
      can.0,
      can.1,
      record {
        node = c.args.message.now.to.actor;
        state = k.value;
        here = k.here;
        sound = subst (λ (x : Stepped fabric). LeavesSound x) (reaches_instance a can.0 c.args.message.now c.in-Some.place c.index.result.now can.1 k c.index.ensures c.args.input.now c.requires.input meant) can.2;
      },
    )

pub returns-in_err-step_at : goal.returns-in_err-step_at
returns-in_err-step_at c w s =
    let a = c.args.self.now in
    let k = c.in-Some.ensures w s in
    let meant : is_meant_for c.args.message.now.to c.index.result.now.0 ≡ true = sym c.is_meant.ensures ∙ c.if-not-is_meant.false in
    let step = reaches_instance a w c.args.message.now c.in-Some.place c.index.result.now s k c.index.ensures c.args.input.now c.requires.input meant in
    let p = err_from_is_err_and c.from_residual.result c.from_residual.ensures.1 in
    rw p.1 (ap (λ (x : Stepped fabric). is_some x.entry) step, c.in_err-step_at.ensures w c.args.message.now.to.actor k.value s k.here k.found)

pub returns : goal.returns
returns c w s =
    let a = c.args.self.now in
    let k = c.in-Some.ensures w s in
    let meant : is_meant_for c.args.message.now.to c.index.result.now.0 ≡ true = sym c.is_meant.ensures ∙ c.if-not-is_meant.false in
    subst (λ (x : Stepped fabric). Moves a c.step_at.new.self x c.args.line (Some c.in_ok-step_at.field-0))
    (sym (reaches_instance a w c.args.message.now c.in-Some.place c.index.result.now s k c.index.ensures c.args.input.now c.requires.input meant))
    (c.in_ok-step_at.ensures w c.args.message.now.to.actor k.value s k.here k.found)
