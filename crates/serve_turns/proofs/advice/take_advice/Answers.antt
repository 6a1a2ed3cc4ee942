use Rattle.std.proofs.lemmas.Result.{err_from_is_err_and}
use Rattle.serve_turns.proofs.advice.take_advice.Goals as goal

pub returns-in_err-do_advice-in-Say-clause-done : goal.returns-in_err-do_advice-in-Say-clause-done
returns-in_err-do_advice-in-Say-clause-done g c =
    let p = err_from_is_err_and c.from_residual.result c.from_residual.ensures.1 in
    λ o es at. rw (p.1, p.2) (c.in_err-do_advice-in-Say.ensures.done o es (g.P.Policy.advised c.args.audience.now.policy) at c.in-Say.ensures.1)

pub returns-in_ok-do_advice-in-Say-clause-done : goal.returns-in_ok-do_advice-in-Say-clause-done
returns-in_ok-do_advice-in-Say-clause-done g c = λ o es at.
    c.in_ok-do_advice-in-Say.ensures.done o es (g.P.Policy.advised c.args.audience.now.policy) at c.in-Say.ensures.1
