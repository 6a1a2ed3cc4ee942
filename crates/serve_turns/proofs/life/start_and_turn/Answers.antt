use Rattle.std.proofs.lemmas.Result.{err_from_is_err_and}
use Rattle.serve_turns.proofs.life.start_and_turn.Goals as goal

pub returns-in_err-start : goal.returns-in_err-start
returns-in_err-start g c =
    let p = err_from_is_err_and c.from_residual.result c.from_residual.ensures.1 in
    λ o es kept t. rw (p.1, p.2) (c.in_err-start.ensures.done o es kept t)

pub returns : goal.returns
returns g c = λ o es kept t.
    let first = c.in_ok-start.ensures.done o es kept t in
    c.take_turns.ensures o first.0 first.1
