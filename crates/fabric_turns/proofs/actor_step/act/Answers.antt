use Rattle.std.proofs.Common.{rules}
use Rattle.fabric_turns.proofs.Acting.{short_at, act_full, named_step, ready_on}
use Rattle.fabric_turns.proofs.Through.{act_through, through_opened}
use Rattle.fabric_turns.proofs.actor_step.act.Goals as goal
use Rattle.fabric_turns.specs.Steps.{left_at, work_in}
use Rattle.node_core.specs.NodeEffects.{left_in}
use Rattle.turn_rules.specs.Whole.{setting}

pub returns-in-Err-OutOfMemory-clause-done : goal.returns-in-Err-OutOfMemory-clause-done
returns-in-Err-OutOfMemory-clause-done g c = λ kept a h x p m is. short_at (setting c.args.plan.now kept) a _ h x p m.came

pub returns-in-Err-TableFull-clause-done : goal.returns-in-Err-TableFull-clause-done
returns-in-Err-TableFull-clause-done g c = λ kept a h x p m is.
    act_full (setting c.args.plan.now kept) a _ c.args.run.now h x p c.args.at.turn.number c.args.at.place c.args.input.now m is (c.step_into.ensures.full (search rules) c.args.plan.now c.requires.ready.members)

pub carry_through-requires-clause-listens : goal.carry_through-requires-clause-listens
carry_through-requires-clause-listens g c =
    named_step c.args.plan.now c.args.run.now _ c.args.at.turn.number c.args.at.place c.args.input.now (record { head = c.in-Ok.head; outcome = left_in c.step_into.new.work.effects.value }) c.step_into.new.self c.requires.ready (c.in-Ok.ensures.does c.args.plan.now c.requires.ready.members)

pub carry_through-requires-clause-deed : goal.carry_through-requires-clause-deed
carry_through-requires-clause-deed g c = let t = c.in-Ok.ensures.does c.args.plan.now c.requires.ready.members in (t.endpoint.actor, t.own)

pub returns-in-Ok-clause-done : goal.returns-in-Ok-clause-done
returns-in-Ok-clause-done g c =
    let t = c.in-Ok.ensures.does c.args.plan.now c.requires.ready.members in
    λ kept a h x q m is. act_through (setting c.args.plan.now kept) a _ _ c.args.run.now c.step_into.new.self h x q c.args.at.turn.number c.args.at.place c.args.input.now (record { head = c.in-Ok.head; outcome = left_in c.step_into.new.work.effects.value }) m is t c.carry_through.result c.carry_through.ensures

pub returns-in-Ok-clause-ready : goal.returns-in-Ok-clause-ready
returns-in-Ok-clause-ready g c =
    let t = c.in-Ok.ensures.does c.args.plan.now c.requires.ready.members in
    ready_on c.args.plan.now c.args.run.now _ c.args.at.turn.number c.args.at.place c.args.input.now (record { head = c.in-Ok.head; outcome = left_in c.step_into.new.work.effects.value }) c.step_into.new.self _ c.requires.ready t
    (through_opened (work_in c.args.plan.now.config (record { head = c.in-Ok.head; outcome = left_in c.step_into.new.work.effects.value })) (left_at c.step_into.new.self.members c.args.at.place) _ _ c.carry_through.result c.carry_through.ensures)
