use Rattle.std.proofs.Common.{◌+◌, ◌-◌, length, take, Some, arith, ap, sym, ◌∙◌}
use Rattle.std.proofs.lemmas.List.{take_more_set, take_all}
use Rattle.std.proofs.lemmas.Result.{err_from_is_err_and}
use Rattle.wire_fields.specs.Readers.{times, interval_at}
use Rattle.wire_fields.proofs.Times.{with_front, times_next, times_bad, times_done}
use Rattle.wire_fields.proofs.read.ranges.fill.Goals as goal

pub returns-in_err-interval : goal.returns-in_err-interval
returns-in_err-interval c =
    let n = length c.args.places.now in
    let i = c.loop-place.place-index in
    let p = err_from_is_err_and c.from_residual.result c.from_residual.ensures.1 in
    rw p.1 (sym c.loop-place.invariant ∙ times_bad interval_at (n - i) (n - i - 1) _ _ (omega arith) c.in_err-interval.ensures)

pub loop-place-preserved : goal.loop-place-preserved
loop-place-preserved c =
    let n = length c.args.places.now in
    let i = c.loop-place.place-index in
    let v = c.in_ok-interval.interval in
    let after = c.in_ok-interval.after.now in
    ap (λ xs. with_front xs (times (n - (i + 1)) interval_at after)) (take_more_set c.loop-place.places i v (omega arith))
    ∙ (times_next interval_at (n - i) (n - (i + 1)) (take i c.loop-place.places) c.loop-place.rest.now v after (omega arith) c.in_ok-interval.ensures ∙ c.loop-place.invariant)

pub returns : goal.returns
returns c =
    let n = length c.args.places.now in
    let i = c.loop-place.place-index in
    sym c.loop-place.invariant
    ∙ (times_done interval_at (n - i) (take i c.loop-place.places) c.loop-place.rest.now (omega arith)
    ∙ ap (λ t. Some (t, c.loop-place.rest.now)) (take_all i c.loop-place.places (omega arith)))
