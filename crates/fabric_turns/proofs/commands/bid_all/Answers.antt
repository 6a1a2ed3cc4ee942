use Rattle.std.proofs.Common.{◌≡◌, ◌∙◌, ap, List, arith, refl}
use Rattle.std.proofs.lemmas.Result.{err_from_is_err_and}
use Rattle.fabric_terms.specs.declared.command.Command.{Command}
use Rattle.fabric_turns.specs.Moves.{at_place}
use Rattle.turn_rules.specs.Order.{Busy}
use Rattle.turn_rules.specs.Whole.{setting}
use Rattle.fabric_turns.proofs.Places.{leads_to}
use Rattle.fabric_turns.proofs.Windows.{begins_at, ends_at, of_turn}
use Rattle.fabric_turns.proofs.commands.bid_all.Goals as goal

-- the commands from the first of the turn's orders on are all of the turn
pub loop-index-init : goal.loop-index-init
loop-index-init g c = record {
  done = λ kept.
      leads_to (setting c.args.plan.now kept) _ _ c.args.run.now c.args.run.now _ _ _
      (ap (λ (cs : List Command). at_place c.args.at.turn.number c.args.at.place (Busy cs 0)) (begins_at c.args.at.turn.number c.args.at.place c.args.plan.now.orders c.args.at.turn.first c.requires.turn.first))
      (λ a h t. (h, t));
  ready = c.requires.ready;
  same = refl;
}

pub bid_order-requires-clause-known : goal.bid_order-requires-clause-known
bid_order-requires-clause-known g c = let within = c.requires.turn.next.within in omega (arith, within)

pub bid_order-requires-clause-turn : goal.bid_order-requires-clause-turn
bid_order-requires-clause-turn g c = λ o here.
    of_turn c.args.plan.now.orders c.args.at.turn.number c.args.at.turn.first c.args.at.turn.end c.loop-index.index o c.requires.turn.first c.requires.turn.next (omega arith) (omega arith) here

pub loop-index-preserved : goal.loop-index-preserved
loop-index-preserved g c = record {
  done = λ kept a h t. let k = c.loop-index.invariant.done kept a h t in c.in_ok-bid_order.ensures.done kept a k.0 k.1;
  ready = c.in_ok-bid_order.ensures.ready;
  same = c.in_ok-bid_order.ensures.same ∙ c.loop-index.invariant.same;
}

pub returns-in_err-bid_order-clause-done : goal.returns-in_err-bid_order-clause-done
returns-in_err-bid_order-clause-done g c =
    let p = err_from_is_err_and c.from_residual.result c.from_residual.ensures.1 in
    λ kept a h t.
    let k = c.loop-index.invariant.done kept a h t in
    rw (p.1, p.2) (c.in_err-bid_order.ensures.done kept a k.0 k.1)

pub returns-clause-done : goal.returns-clause-done
returns-clause-done g c = λ kept.
    let low = c.requires.turn.in_order in
    let last : c.loop-index.index ≡ c.args.at.turn.end = omega (arith, low) in
    leads_to (setting c.args.plan.now kept) _ _ c.args.run.now c.loop-index.run _ _ _
    (ap (λ (cs : List Command). at_place c.args.at.turn.number c.args.at.place (Busy cs 0))
    (rw last (ends_at c.args.at.turn.number c.args.at.place c.args.plan.now.orders c.args.at.turn.end c.requires.turn.next)))
    (c.loop-index.invariant.done kept)
