use Rattle.std.proofs.Common.{Ok, Err, ◌∙◌, sym}
use Rattle.std.proofs.lemmas.Result.{err_from_is_err_and}
use Rattle.fabric_turns.proofs.Through.{carried_as, through_stopped}
use Rattle.fabric_turns.proofs.actor_step.carry_through.Goals as goal
use Rattle.fabric_turns.specs.Steps.{left_at, work_in}
use Rattle.node_core.specs.NodeEffects.{left_in}

pub returns-in_err-carry_left : goal.returns-in_err-carry_left
returns-in_err-carry_left g c =
    let p = err_from_is_err_and c.from_residual.result c.from_residual.ensures.1 in
    rw (p.1, p.2)
    (through_stopped (work_in c.args.plan.now.config (record { head = c.args.head.now; outcome = left_in c.args.work.now.effects.value })) (left_at c.args.run.now.members c.args.place) _ _ c.in_err-carry_left.field-0.0
    (carried_as c.args.plan.now.config c.config.result.now (record { head = c.args.head.now; outcome = left_in c.args.work.now.effects.value }) (g.O.Outside.told c.args.outside.now) (g.O.Outside.told c.carry_left.new.outside) (Err c.in_err-carry_left.field-0.0) c.config.ensures c.in_err-carry_left.ensures))

pub returns-in-None : goal.returns-in-None
returns-in-None g c =
    (carried_as c.args.plan.now.config c.config.result.now (record { head = c.args.head.now; outcome = left_in c.args.work.now.effects.value }) (g.O.Outside.told c.args.outside.now) (g.O.Outside.told c.carry_left.new.outside) (Ok c.in_ok-carry_left.field-0) c.config.ensures c.in_ok-carry_left.ensures, sym c.left_at.ensures ∙ c.in-None.is)

pub returns-in-Some : goal.returns-in-Some
returns-in-Some g c =
    (carried_as c.args.plan.now.config c.config.result.now (record { head = c.args.head.now; outcome = left_in c.args.work.now.effects.value }) (g.O.Outside.told c.args.outside.now) (g.O.Outside.told c.carry_left.new.outside) (Ok c.in_ok-carry_left.field-0) c.config.ensures c.in_ok-carry_left.ensures, sym c.left_at.ensures ∙ c.in-Some.is)
