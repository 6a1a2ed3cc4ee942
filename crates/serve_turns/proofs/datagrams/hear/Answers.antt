use Rattle.std.proofs.Common.{arith, ◌≡◌, ap, rules}
use Rattle.std.proofs.lemmas.Result.{err_from_is_err_and}
use Rattle.serve_turns.proofs.Hearing.{either_more, either_none}
use Rattle.serve_turns.proofs.Placing.{at_as}
use Rattle.serve_turns.proofs.datagrams.hear.Goals as goal
use Rattle.turn_rules.specs.Order.{hearing}

pub returns-in_err-hear_one-clause-done : goal.returns-in_err-hear_one-clause-done
returns-in_err-hear_one-clause-done g c =
    let p = err_from_is_err_and c.from_residual.result c.from_residual.ensures.1 in
    λ o es t.
    let k = c.loop-heard.invariant.done o es t in
    rw (p.1, p.2) (c.in_err-hear_one.ensures.done c.loop-heard._heard (omega arith) o k.0 k.1)

pub returns-then-not-branch-clause-done : goal.returns-then-not-branch-clause-done
returns-then-not-branch-clause-done g c = λ o es t.
    let k = c.loop-heard.invariant.done o es t in
    either_none c.args.service.now.plan o _ _ _ _ c.in_ok-hear_one.field-0 (search rules) (c.in_ok-hear_one.ensures.done c.loop-heard._heard (omega arith) o k.0 k.1)

pub loop-heard-preserved : goal.loop-heard-preserved
loop-heard-preserved g c = record {
  done = λ o es t.
      let k = c.loop-heard.invariant.done o es t in
      either_more c.args.service.now.plan o _ _ _ _ c.in_ok-hear_one.field-0 (search rules) (c.in_ok-hear_one.ensures.done c.loop-heard._heard (omega arith) o k.0 k.1);
  can = c.in_ok-hear_one.ensures.can;
}

pub returns-clause-done : goal.returns-clause-done
returns-clause-done g c = λ o es t.
    let e : c.loop-heard._heard ≡ 64 = omega arith in
    let k = c.loop-heard.invariant.done o es t in
    (k.0, at_as c.args.service.now.plan o _ _ k.0 _ _ (ap (hearing c.args.service.now.plan c.args.turn 0) e) k.1)
