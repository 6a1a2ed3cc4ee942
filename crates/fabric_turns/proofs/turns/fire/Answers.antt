use Rattle.turn_rules.specs.Whole.{setting}
use Rattle.std.proofs.Common.{refl, ◌∷◌}
use Rattle.fabric_turns.proofs.Coming.{fire_comes, fires_at, comes_to}
use Rattle.fabric_turns.proofs.turns.fire.Goals as goal

pub returns-clause-done : goal.returns-clause-done
returns-clause-done g c = λ kept a h t.
    comes_to (setting c.args.plan.now kept) a _ _ (_ ∷ h) _ c.act.result (c.act.ensures.done kept a h (fires_at c.args.at.turn.number c.args.at.place) _ (fire_comes (setting c.args.plan.now kept) a _ c.args.run.now h c.args.at.turn.number c.args.at.place t) refl)
