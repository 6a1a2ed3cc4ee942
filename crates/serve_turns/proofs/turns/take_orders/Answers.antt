use Rattle.std.proofs.Common.{ap, sym, ◌∙◌}
use Rattle.std.proofs.lemmas.Result.{err_from_is_err_and}
use Rattle.serve_turns.proofs.Ordered.{can_turn, ends_at, gone_at}
use Rattle.serve_turns.proofs.turns.take_orders.Goals as goal
use Rattle.serve_turns.specs.Live.{Live}

pub take_advice-requires-clause-can : goal.take_advice-requires-clause-can
take_advice-requires-clause-can g c = c.in_ok-take_lines.ensures.can (sym (ap (λ (l : Live). l.ending) c.live.view_is) ∙ c.if-live.false)

pub returns-in_err-take_lines-clause-done : goal.returns-in_err-take_lines-clause-done
returns-in_err-take_lines-clause-done g c =
    let p = err_from_is_err_and c.from_residual.result c.from_residual.ensures.1 in
    λ o es t. rw (p.1, p.2) (c.in_err-take_lines.ensures.done o es t)

pub returns-in_err-take_advice-clause-done : goal.returns-in_err-take_advice-clause-done
returns-in_err-take_advice-clause-done g c =
    let p = err_from_is_err_and c.from_residual-in_err-take_advice.result c.from_residual-in_err-take_advice.ensures.1 in
    λ o es t.
    let first = c.in_ok-take_lines.ensures.done o es t in
    rw (p.1, p.2) (c.in_err-take_advice.ensures.done o first.0 first.1)

pub returns-then-live-clause-done : goal.returns-then-live-clause-done
returns-then-live-clause-done g c = λ o es t.
    let first = c.in_ok-take_lines.ensures.done o es t in
    ends_at c.args.service.now.plan o _ c.take_lines.new.live _ first.0 (sym (ap (λ (l : Live). l.ending) c.live.view_is) ∙ c.if-live.true) first.1

pub returns-then-not-branch-clause-done : goal.returns-then-not-branch-clause-done
returns-then-not-branch-clause-done g c = λ o es t.
    let first = c.in_ok-take_lines.ensures.done o es t in
    c.in_ok-take_advice.ensures.done o first.0 first.1

pub returns-clause-done : goal.returns-clause-done
returns-clause-done g c = λ o es t.
    let first = c.in_ok-take_lines.ensures.done o es t in
    let second = c.in_ok-take_advice.ensures.done o first.0 first.1 in
    gone_at c.args.service.now.plan o _ c.take_advice.new.live _ second.0 c.live-2.inside.leaving (ap (λ (l : Live). l.leaving) c.live-2.view_is) second.1

pub returns-clause-can : goal.returns-clause-can
returns-clause-can g c = can_turn c.args.service.now.plan c.take_advice.new.live _ c.live-2.inside.leaving c.in_ok-take_advice.ensures.can
