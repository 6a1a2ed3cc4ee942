use Rattle.std.proofs.Common.{◌≡◌, ◌+◌, ℕ, ap, arith, rules, subst, sym}
use Rattle.std.proofs.lemmas.Result.{err_from_is_err_and}
use Rattle.edge_io.specs.Told.{Told}
use Rattle.serve_turns.proofs.Ordered.{can_when, goes_when, told_when}
use Rattle.serve_turns.proofs.Placing.{at_as}
use Rattle.serve_turns.proofs.life.take_turns.Goals as goal
use Rattle.serve_turns.specs.Live.{At, around}
use Rattle.serve_turns.specs.Lives.{most_turns}
use Rattle.serve_turns.specs.Steps.{CanGoOn}
use Rattle.turn_rules.specs.Order.{arrive}

pub loop-number-init : goal.loop-number-init
loop-number-init g c = record { done = λ o es t. (es, t); can = c.requires.can }

pub take_turn-requires-clause-can : goal.take_turn-requires-clause-can
take_turn-requires-clause-can g c = subst (λ (t : Told). CanGoOn c.args.service.now.plan c.loop-number.live t) (sym c.settle.ensures.told) c.loop-number.invariant.can

pub loop-number-preserved : goal.loop-number-preserved
loop-number-preserved g c = record {
  done = λ o es t.
      let l = c.loop-number in
      let plan = c.args.service.now.plan in
      let k = l.invariant.done o es t in
      let before = subst (λ (b : Told). At plan o (around b (g.C.Clients.told l.audience.clients) (g.P.Policy.advised l.audience.policy)) l.live k.0 (arrive plan (l.number + 1) 0)) (sym c.settle.ensures.told) k.1 in
      goes_when plan o _ _ _ c.in_ok-take_turn.field-0 (search rules) (c.in_ok-take_turn.ensures.done o k.0 before);
  can = can_when c.args.service.now.plan _ _ c.in_ok-take_turn.field-0 (search rules) c.in_ok-take_turn.ensures.can;
}

pub returns-in_err-take_turn : goal.returns-in_err-take_turn
returns-in_err-take_turn g c =
    let p = err_from_is_err_and c.from_residual.result c.from_residual.ensures.1 in
    λ o es t.
    let l = c.loop-number in
    let plan = c.args.service.now.plan in
    let k = l.invariant.done o es t in
    let before = subst (λ (b : Told). At plan o (around b (g.C.Clients.told l.audience.clients) (g.P.Policy.advised l.audience.policy)) l.live k.0 (arrive plan (l.number + 1) 0)) (sym c.settle.ensures.told) k.1 in
    rw (p.1, p.2) (c.in_err-take_turn.ensures.done o k.0 before)

pub returns-then-branch : goal.returns-then-branch
returns-then-branch g c = λ o es t.
    let l = c.loop-number in
    let plan = c.args.service.now.plan in
    let k = l.invariant.done o es t in
    let before = subst (λ (b : Told). At plan o (around b (g.C.Clients.told l.audience.clients) (g.P.Policy.advised l.audience.policy)) l.live k.0 (arrive plan (l.number + 1) 0)) (sym c.settle.ensures.told) k.1 in
    told_when plan o _ _ _ c.in_ok-take_turn.field-0 (search rules) (c.in_ok-take_turn.ensures.done o k.0 before)

pub returns : goal.returns
returns g c = λ o es t.
    let e : c.loop-number.number ≡ most_turns = omega arith in
    let k = c.loop-number.invariant.done o es t in
    (k.0, at_as c.args.service.now.plan o _ _ k.0 _ _ (ap (λ (n : ℕ). arrive c.args.service.now.plan (n + 1) 0) e) k.1)
