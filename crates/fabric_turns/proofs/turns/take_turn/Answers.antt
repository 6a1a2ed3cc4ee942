use Rattle.std.proofs.Common.{refl, ◌∙◌, sym}
use Rattle.turn_rules.specs.Whole.{setting}
use Rattle.fabric_turns.proofs.Places.{goes_as, coming_at, node_arrives, arbiter_arrives, arbiter_heard_all}
use Rattle.fabric_turns.proofs.turns.take_turn.Goals as goal

pub returns-then-is_node_at-clause-done : goal.returns-then-is_node_at-clause-done
returns-then-is_node_at-clause-done g c = λ kept.
    goes_as (setting c.args.plan.now kept) _ _ c.args.run.now c.node_turn.new.run _ _ _ _ c.node_turn.result (coming_at c.args.plan.now c.args.at.turn.number c.args.at.place c.requires.within ∙ node_arrives c.args.plan.now c.args.at.turn.number c.args.at.place c.requires.counted (sym c.is_node_at.ensures ∙ c.if-is_node_at.true)) refl (c.node_turn.ensures.done kept)

pub returns-else-is_node_at-clause-done : goal.returns-else-is_node_at-clause-done
returns-else-is_node_at-clause-done g c = λ kept.
    goes_as (setting c.args.plan.now kept) _ _ c.args.run.now c.hear.new.run _ _ _ _ c.hear.result (coming_at c.args.plan.now c.args.at.turn.number c.args.at.place c.requires.within ∙ arbiter_arrives c.args.plan.now c.args.at.turn.number c.args.at.place c.requires.counted (sym c.is_node_at.ensures ∙ c.if-is_node_at.false))
    (arbiter_heard_all c.args.plan.now c.args.at.turn.number c.args.at.place (sym c.is_node_at.ensures ∙ c.if-is_node_at.false)) (c.hear.ensures.done kept)
