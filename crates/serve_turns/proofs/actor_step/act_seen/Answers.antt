use Rattle.std.proofs.Common.{rules, Ok, Err, ap}
use Rattle.fabric_turns.specs.Runs.{Run}
use Rattle.std.proofs.lemmas.Result.{err_from_is_err_and}
use Rattle.fabric_turns.proofs.Acting.{named_step, ready_on}
use Rattle.fabric_turns.specs.Steps.{work_in}
use Rattle.serve_rules.specs.Services.{life_of}
use Rattle.serve_turns.proofs.Acting.{act_carried, act_is_full, act_stops, short_in}
use Rattle.serve_turns.proofs.Carrying.{all_opened}
use Rattle.serve_turns.proofs.actor_step.act_seen.Goals as goal

pub returns-in-Err-OutOfMemory-clause-done : goal.returns-in-Err-OutOfMemory-clause-done
returns-in-Err-OutOfMemory-clause-done g c = λ kept a h x p m is. short_in (life_of c.args.service.now.plan kept) a _ h x p m.came

pub returns-in-Err-TableFull-clause-done : goal.returns-in-Err-TableFull-clause-done
returns-in-Err-TableFull-clause-done g c = λ kept a h x p m is.
    act_is_full (life_of c.args.service.now.plan kept) a _ c.args.run.now h x p c.args.turn c.args.input.now m is (c.step.ensures.full (search rules) c.args.service.now.plan c.requires.ready.members)

pub carry-requires-clause-listens : goal.carry-requires-clause-listens
carry-requires-clause-listens g c =
    named_step c.args.service.now.plan c.args.run.now _ c.args.turn 0 c.args.input.now c.in-Ok.deed c.step.new.self c.requires.ready (c.in-Ok.ensures.does c.args.service.now.plan c.requires.ready.members)

pub carry-requires-clause-deed : goal.carry-requires-clause-deed
carry-requires-clause-deed g c = let t = c.in-Ok.ensures.does c.args.service.now.plan c.requires.ready.members in (t.endpoint.actor, t.own)

pub returns-in_err-carry-in-Ok-clause-done : goal.returns-in_err-carry-in-Ok-clause-done
returns-in_err-carry-in-Ok-clause-done g c =
    let t = c.in-Ok.ensures.does c.args.service.now.plan c.requires.ready.members in
    let p = err_from_is_err_and c.from_residual.result c.from_residual.ensures.1 in
    λ kept a h x q m is.
    rw (p.1, p.2)
    (act_stops (life_of c.args.service.now.plan kept) a _ c.args.run.now c.step.new.self h x q c.args.turn c.args.input.now c.in-Ok.deed m is t _ c.in_err-carry-in-Ok.field-0.0 c.in_err-carry-in-Ok.ensures.carries)

pub returns-in_err-carry-in-Ok-clause-ready : goal.returns-in_err-carry-in-Ok-clause-ready
returns-in_err-carry-in-Ok-clause-ready g c =
    let t = c.in-Ok.ensures.does c.args.service.now.plan c.requires.ready.members in
    ready_on c.args.service.now.plan c.args.run.now _ c.args.turn 0 c.args.input.now c.in-Ok.deed c.step.new.self _ c.requires.ready t
    (all_opened (work_in c.args.service.now.plan.config c.in-Ok.deed) _ _ (Err c.in_err-carry-in-Ok.field-0.0) c.in_err-carry-in-Ok.ensures.carries)

pub returns-in_ok-carry-in-Ok-clause-done : goal.returns-in_ok-carry-in-Ok-clause-done
returns-in_ok-carry-in-Ok-clause-done g c =
    let t = c.in-Ok.ensures.does c.args.service.now.plan c.requires.ready.members in
    λ kept a h x q m is.
    act_carried (life_of c.args.service.now.plan kept) a _ c.args.run.now c.step.new.self h x q c.args.turn c.args.input.now c.in-Ok.deed m is t _ c.in_ok-carry-in-Ok.ensures.carries

pub returns-in_ok-carry-in-Ok-clause-ready : goal.returns-in_ok-carry-in-Ok-clause-ready
returns-in_ok-carry-in-Ok-clause-ready g c =
    let t = c.in-Ok.ensures.does c.args.service.now.plan c.requires.ready.members in
    ready_on c.args.service.now.plan c.args.run.now _ c.args.turn 0 c.args.input.now c.in-Ok.deed c.step.new.self _ c.requires.ready t
    (all_opened (work_in c.args.service.now.plan.config c.in-Ok.deed) _ _ (Ok c.in_ok-carry-in-Ok.field-0) c.in_ok-carry-in-Ok.ensures.carries)

pub returns-in_err-carry-in-Ok-clause-last : goal.returns-in_err-carry-in-Ok-clause-last
returns-in_err-carry-in-Ok-clause-last g c = ap (λ (r : Run). r.last) (c.in-Ok.ensures.does c.args.service.now.plan c.requires.ready.members).now

pub returns-in_ok-carry-in-Ok-clause-last : goal.returns-in_ok-carry-in-Ok-clause-last
returns-in_ok-carry-in-Ok-clause-last g c = ap (λ (r : Run). r.last) (c.in-Ok.ensures.does c.args.service.now.plan c.requires.ready.members).now
