use Rattle.std.proofs.Common.{None, ◌∷◌, ◌∙◌, sym}
use Rattle.fabric_turns.proofs.Coming.{arbiter_comes, begins_at, comes_to}
use Rattle.fabric_turns.proofs.startup.start.Goals as goal
use Rattle.turn_rules.specs.Whole.{setting}

pub returns-else-is_node_at-clause-done : goal.returns-else-is_node_at-clause-done
returns-else-is_node_at-clause-done g c = λ list records here is a h t.
    comes_to (setting c.args.plan.now list) a _ _ (_ ∷ h) _ c.join.result
    (c.join.ensures.done list records a h (begins_at c.args.place None) _ here is (arbiter_comes (setting c.args.plan.now list) a _ c.args.run.now h c.args.place (sym c.is_node_at.ensures ∙ c.if-is_node_at.false) c.requires.next t))
