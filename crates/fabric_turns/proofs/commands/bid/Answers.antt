use Rattle.turn_rules.specs.Whole.{setting}
use Rattle.std.proofs.Common.{refl, ◌∷◌}
use Rattle.fabric_turns.proofs.Coming.{bid_comes, bids_at, comes_to}
use Rattle.fabric_turns.proofs.commands.bid.Goals as goal

pub returns-clause-done : goal.returns-clause-done
returns-clause-done g c = λ kept rest n a h t.
    comes_to (setting c.args.plan.now kept) a _ _ (_ ∷ h) _ c.act.result (c.act.ensures.done kept a h (bids_at c.args.at.turn.number c.args.at.place c.args.command) _ (bid_comes (setting c.args.plan.now kept) a _ c.args.run.now h c.args.at.turn.number c.args.at.place c.args.command rest n t) refl)
