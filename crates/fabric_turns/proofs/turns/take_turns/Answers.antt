use Rattle.std.proofs.Common.{◌≡◌, ◌∙◌, ap, ℕ, ◌+◌, Ok, Err, arith, refl, subst}
use Rattle.std.proofs.lemmas.Result.{err_from_is_err_and}
use Rattle.fabric_turns.specs.Windows.{IsFirstOf}
use Rattle.turn_rules.specs.Order.{arrive}
use Rattle.turn_rules.specs.Whole.{setting}
use Rattle.fabric_turns.proofs.Places.{leads_to, turn_numbered}
use Rattle.fabric_turns.proofs.Windows.{first_of_all, turn_in}
use Rattle.fabric_turns.proofs.turns.take_turns.Goals as goal

-- the turn's number counts from 1, and its orders are the plan's

pub loop-number-init : goal.loop-number-init
loop-number-init g c = record {
  done = λ kept a h t. (h, t);
  ready = c.requires.ready;
  first = first_of_all c.args.plan.now.orders c.requires.ready.good.rising;
  same = refl;
}

pub turn_of-turn-requires-clause-rising : goal.turn_of-turn-requires-clause-rising
turn_of-turn-requires-clause-rising g c = rw c.orders.ensures c.loop-number.invariant.ready.good.rising

pub turn_of-turn-requires-clause-first : goal.turn_of-turn-requires-clause-first
turn_of-turn-requires-clause-first g c = rw c.orders.ensures c.loop-number.invariant.first

pub turn_all-requires-clause-turn : goal.turn_all-requires-clause-turn
turn_all-requires-clause-turn g c = turn_in c.orders.result.now c.args.plan.now.orders c.turn_of-turn.result c.orders.ensures c.turn_of-turn.ensures.turn

pub turn_all-requires-clause-counted : goal.turn_all-requires-clause-counted
turn_all-requires-clause-counted g c = let number = c.turn_of-turn.ensures.number in omega (arith, number)

pub loop-number-preserved : goal.loop-number-preserved
loop-number-preserved g c = record {
  done = λ kept a h t.
      let k = c.loop-number.invariant.done kept a h t in
      turn_numbered (setting c.args.plan.now kept) _ _ c.loop-number.run c.turn_all.new.run c.turn_of-turn.result.number (c.loop-number.number + 1) (Ok c.in_ok-turn_all.field-0) c.turn_of-turn.ensures.number (c.in_ok-turn_all.ensures.done kept) a k.0 k.1;
  ready = c.in_ok-turn_all.ensures.ready;
  first =
      subst (λ (n : ℕ). IsFirstOf c.args.plan.now.orders (n + 1) c.turn_of-turn.result.end) c.turn_of-turn.ensures.number
      (turn_in c.orders.result.now c.args.plan.now.orders c.turn_of-turn.result c.orders.ensures c.turn_of-turn.ensures.turn).next;
  same = c.in_ok-turn_all.ensures.same ∙ c.loop-number.invariant.same;
}

pub returns-in_err-turn_all : goal.returns-in_err-turn_all
returns-in_err-turn_all g c = record {
  done = let p = err_from_is_err_and c.from_residual.result c.from_residual.ensures.1 in
      λ kept a h t.
      let k = c.loop-number.invariant.done kept a h t in
      rw (p.1, p.2) (turn_numbered (setting c.args.plan.now kept) _ _ c.loop-number.run c.turn_all.new.run c.turn_of-turn.result.number (c.loop-number.number + 1) (Err c.in_err-turn_all.field-0.0) c.turn_of-turn.ensures.number (c.in_err-turn_all.ensures.done kept) a k.0 k.1);
}

pub returns : goal.returns
returns g c = record {
  done = λ kept.
      let e : c.loop-number.number ≡ c.args.plan.now.turns = omega (arith, c.turns-number-end.ensures) in
      leads_to (setting c.args.plan.now kept) _ _ c.args.run.now c.loop-number.run _ _ _ (ap (λ (n : ℕ). arrive c.args.plan.now (n + 1) 0) e) (c.loop-number.invariant.done kept);
}
