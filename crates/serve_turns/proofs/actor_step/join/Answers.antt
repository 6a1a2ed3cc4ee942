use Rattle.std.proofs.Common.{rules, List, length, Ok, ap, refl}
use Rattle.std.proofs.lemmas.Result.{err_from_is_err_and}
use Rattle.fabric_turns.proofs.Starting.{length_join, named_join, ready_join}
use Rattle.fabric_turns.specs.Steps.{work_in}
use Rattle.serve_rules.specs.Services.{life_of}
use Rattle.serve_turns.proofs.Acting.{join_carried, join_is_full, join_stops, short_in}
use Rattle.serve_turns.proofs.Carrying.{all_opened}
use Rattle.serve_turns.proofs.actor_step.join.Goals as goal
use Rattle.turn_members.specs.declared.member.Member.{Member}

pub returns-in-Err-OutOfMemory-clause-done : goal.returns-in-Err-OutOfMemory-clause-done
returns-in-Err-OutOfMemory-clause-done g c = λ records a h x p kept m. short_in (life_of c.args.service.now.plan records) a _ h x p m.came

pub returns-in-Err-TableFull-clause-done : goal.returns-in-Err-TableFull-clause-done
returns-in-Err-TableFull-clause-done g c = λ records a h x p kept m.
    join_is_full (life_of c.args.service.now.plan records) a _ c.args.run.now h x p records refl m (c.join.ensures.full (search rules) records kept)

pub carry-requires-clause-listens : goal.carry-requires-clause-listens
carry-requires-clause-listens g c =
    let k = c.requires.kept in
    named_join c.args.service.now.plan k.0 c.args.run.now _ 0 c.in-Ok.deed c.join.new.self c.requires.ready (c.in-Ok.ensures.does k.0 k.1)

pub carry-requires-clause-deed : goal.carry-requires-clause-deed
carry-requires-clause-deed g c = let t = c.in-Ok.ensures.does c.requires.kept.0 c.requires.kept.1 in (t.endpoint.actor, t.own)

pub returns-in_err-carry-in-Ok-clause-done : goal.returns-in_err-carry-in-Ok-clause-done
returns-in_err-carry-in-Ok-clause-done g c =
    let p = err_from_is_err_and c.from_residual.result c.from_residual.ensures.1 in
    λ records a h x q kept m.
    rw (p.1, p.2)
    (join_stops (life_of c.args.service.now.plan records) a _ c.args.run.now c.join.new.self h x q records c.in-Ok.deed refl m (c.in-Ok.ensures.does records kept) _ c.in_err-carry-in-Ok.field-0.0 c.in_err-carry-in-Ok.ensures.carries)

pub returns-in_ok-carry-in-Ok-clause-done : goal.returns-in_ok-carry-in-Ok-clause-done
returns-in_ok-carry-in-Ok-clause-done g c = λ records a h x q kept m.
    join_carried (life_of c.args.service.now.plan records) a _ c.args.run.now c.join.new.self h x q records c.in-Ok.deed refl m (c.in-Ok.ensures.does records kept) _ c.in_ok-carry-in-Ok.ensures.carries

pub returns-in_ok-carry-in-Ok-clause-ready : goal.returns-in_ok-carry-in-Ok-clause-ready
returns-in_ok-carry-in-Ok-clause-ready g c =
    let k = c.requires.kept in
    let t = c.in-Ok.ensures.does k.0 k.1 in
    ready_join c.args.service.now.plan k.0 c.args.run.now _ 0 c.in-Ok.deed c.join.new.self _ (ap (λ (ms : List Member). length ms) c.requires.nobody) c.requires.ready t
    (all_opened (work_in c.args.service.now.plan.config c.in-Ok.deed) _ _ (Ok c.in_ok-carry-in-Ok.field-0) c.in_ok-carry-in-Ok.ensures.carries)

pub returns-in_ok-carry-in-Ok-clause-runs : goal.returns-in_ok-carry-in-Ok-clause-runs
returns-in_ok-carry-in-Ok-clause-runs g c =
    let k = c.requires.kept in
    length_join c.args.service.now.plan k.0 c.args.run.now 0 c.in-Ok.deed c.join.new.self (c.in-Ok.ensures.does k.0 k.1) (ap (λ (ms : List Member). length ms) c.requires.nobody)
