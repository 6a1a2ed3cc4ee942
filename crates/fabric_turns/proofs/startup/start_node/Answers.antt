use Rattle.turn_rules.specs.Whole.{setting}
use Rattle.std.proofs.Common.{Some, ◌∷◌}
use Rattle.fabric_turns.proofs.Coming.{node_comes, ready_read, start_stopped, begins_at, comes_to}
use Rattle.fabric_turns.proofs.startup.start_node.Goals as goal

pub returns-in-Err-clause-done : goal.returns-in-Err-clause-done
returns-in-Err-clause-done g c = λ list records here is a h t.
    start_stopped (setting c.args.plan.now list) a _ _ c.args.run.now c.read_clock.new.run h c.args.place c.in-Err.stop c.requires.node t c.in-Err.ensures.reads

pub returns-in-Ok-clause-done : goal.returns-in-Ok-clause-done
returns-in-Ok-clause-done g c = λ list records here is a h t.
    comes_to (setting c.args.plan.now list) a _ _ (_ ∷ h) _ c.join.result (c.join.ensures.done list records a h (begins_at c.args.place (Some c.in-Ok.field-0)) _ here is (node_comes (setting c.args.plan.now list) a _ _ c.args.run.now c.read_clock.new.run h c.args.place c.in-Ok.field-0 c.requires.node c.requires.next t c.in-Ok.ensures.reads))

pub join-requires-clause-ready : goal.join-requires-clause-ready
join-requires-clause-ready g c = ready_read c.args.plan.now c.args.run.now c.read_clock.new.run _ _ c.in-Ok.field-0 c.requires.ready c.in-Ok.ensures.reads
