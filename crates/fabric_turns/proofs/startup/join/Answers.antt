use Rattle.std.proofs.Common.{rules, arith, length, ◌+◌, ◌≡◌}
use Rattle.fabric_turns.proofs.Acting.{short_at}
use Rattle.fabric_turns.proofs.Starting.{join_full, length_join, named_join, ready_join}
use Rattle.fabric_turns.proofs.Through.{join_through, on_ok, through_opened}
use Rattle.fabric_turns.proofs.startup.join.Goals as goal
use Rattle.fabric_turns.specs.Steps.{left_at, work_in}
use Rattle.turn_rules.specs.Whole.{setting}

pub returns-in-Err-OutOfMemory-clause-done : goal.returns-in-Err-OutOfMemory-clause-done
returns-in-Err-OutOfMemory-clause-done g c = λ list records a h x p here is m. short_at (setting c.args.plan.now list) a _ h x p m.came

pub returns-in-Err-TableFull-clause-done : goal.returns-in-Err-TableFull-clause-done
returns-in-Err-TableFull-clause-done g c = λ list records a h x p here is m.
    join_full (setting c.args.plan.now list) a _ c.args.run.now h x p c.args.place records here m (c.join.ensures.full (search rules) records is)

pub carry_through-requires-clause-place : goal.carry_through-requires-clause-place
carry_through-requires-clause-place g c =
    let k = c.requires.kept in
    let more : length c.join.new.self.members ≡ c.args.place + 1 = length_join c.args.plan.now k.0 c.args.run.now c.args.place c.in-Ok.deed c.join.new.self (c.in-Ok.ensures.does k.0 k.1) c.requires.next in
    omega (arith, more)

pub carry_through-requires-clause-listens : goal.carry_through-requires-clause-listens
carry_through-requires-clause-listens g c =
    let k = c.requires.kept in
    named_join c.args.plan.now k.0 c.args.run.now _ c.args.place c.in-Ok.deed c.join.new.self c.requires.ready (c.in-Ok.ensures.does k.0 k.1)

pub carry_through-requires-clause-deed : goal.carry_through-requires-clause-deed
carry_through-requires-clause-deed g c = let k = c.requires.kept in let t = c.in-Ok.ensures.does k.0 k.1 in (t.endpoint.actor, rw (c.hold.ensures) t.own)

pub returns-in-Ok-clause-done : goal.returns-in-Ok-clause-done
returns-in-Ok-clause-done g c = λ list records a h x q here is m.
    join_through (setting c.args.plan.now list) a _ _ c.args.run.now c.join.new.self h x q c.args.place records c.in-Ok.deed here m (c.in-Ok.ensures.does records is) c.carry_through.result (rw (← c.hold.ensures) c.carry_through.ensures)

pub returns-in-Ok-clause-ready : goal.returns-in-Ok-clause-ready
returns-in-Ok-clause-ready g c =
    let k = c.requires.kept in
    on_ok c.carry_through.result
    (ready_join c.args.plan.now k.0 c.args.run.now _ c.args.place c.in-Ok.deed c.join.new.self _ c.requires.next c.requires.ready (c.in-Ok.ensures.does k.0 k.1)
    (through_opened (work_in c.args.plan.now.config c.in-Ok.deed) (left_at c.join.new.self.members c.args.place) (g.O.Outside.told c.args.outside.now) (g.O.Outside.told c.carry_through.new.outside) c.carry_through.result (rw (← c.hold.ensures) c.carry_through.ensures)))

pub returns-in-Ok-clause-more : goal.returns-in-Ok-clause-more
returns-in-Ok-clause-more g c =
    let k = c.requires.kept in
    on_ok c.carry_through.result (length_join c.args.plan.now k.0 c.args.run.now c.args.place c.in-Ok.deed c.join.new.self (c.in-Ok.ensures.does k.0 k.1) c.requires.next)

pub join-requires-clause-plan : goal.join-requires-clause-plan
join-requires-clause-plan g c = c.requires.ready.good

pub join-requires-clause-last : goal.join-requires-clause-last
join-requires-clause-last g c = c.requires.ready.last

pub join-requires-clause-kept : goal.join-requires-clause-kept
join-requires-clause-kept g c = c.requires.kept
