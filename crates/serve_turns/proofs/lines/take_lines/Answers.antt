use Rattle.std.proofs.lemmas.Result.{err_from_is_err_and}
use Rattle.serve_turns.proofs.lines.take_lines.Goals as goal

pub returns-in_err-has_come-clause-done : goal.returns-in_err-has_come-clause-done
returns-in_err-has_come-clause-done g c =
    let p = err_from_is_err_and c.from_residual.result c.from_residual.ensures.1 in
    λ o es at. let k = c.loop-taken.invariant.done o es at in rw (p.1, p.2) (c.in_err-has_come.ensures.done o k.0 k.1)
