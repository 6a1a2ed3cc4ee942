use Rattle.std.proofs.Common.{rules, ◌≡◌, ◌∙◌, ap, arith}
use Rattle.std.proofs.lemmas.Result.{err_from_is_err_and}
use Rattle.turn_rules.specs.Order.{hearing}
use Rattle.turn_rules.specs.Whole.{setting}
use Rattle.fabric_turns.proofs.Places.{leads_to, asks_none, asks_more}
use Rattle.fabric_turns.proofs.datagrams.hear.Goals as goal

pub returns-in_err-hear_one-clause-done : goal.returns-in_err-hear_one-clause-done
returns-in_err-hear_one-clause-done g c =
    let p = err_from_is_err_and c.from_residual.result c.from_residual.ensures.1 in
    λ kept a h t.
    let k = c.loop-heard.invariant.done kept a h t in
    rw (p.1, p.2) (c.in_err-hear_one.ensures.done kept c.loop-heard._heard (omega arith) a k.0 k.1)

pub returns-then-not-branch-clause-done : goal.returns-then-not-branch-clause-done
returns-then-not-branch-clause-done g c = λ kept a h t.
    let k = c.loop-heard.invariant.done kept a h t in
    asks_none (setting c.args.plan.now kept) _ _ c.loop-heard.run c.hear_one.new.run _ _ _ c.in_ok-hear_one.field-0 (search rules) (c.in_ok-hear_one.ensures.done kept c.loop-heard._heard (omega arith)) a k.0 k.1

pub loop-heard-preserved : goal.loop-heard-preserved
loop-heard-preserved g c = record {
  done = λ kept a h t.
      let k = c.loop-heard.invariant.done kept a h t in
      asks_more (setting c.args.plan.now kept) _ _ c.loop-heard.run c.hear_one.new.run _ _ _ c.in_ok-hear_one.field-0 (search rules) (c.in_ok-hear_one.ensures.done kept c.loop-heard._heard (omega arith)) a k.0 k.1;
  ready = c.in_ok-hear_one.ensures.ready;
  same = c.in_ok-hear_one.ensures.same ∙ c.loop-heard.invariant.same;
}

pub returns-clause-done : goal.returns-clause-done
returns-clause-done g c = λ kept.
    let e : c.loop-heard._heard ≡ 64 = omega arith in
    leads_to (setting c.args.plan.now kept) _ _ c.args.run.now c.loop-heard.run _ _ _ (ap (hearing c.args.plan.now c.args.at.turn.number c.args.at.place) e) (c.loop-heard.invariant.done kept)
