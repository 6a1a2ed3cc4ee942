use Rattle.std.proofs.Common.{◌≡◌, ◌<◌, ◌+◌, ◌-◌, ◌++◌, [], ◌∷◌, length, arith, sym, ap, ◌∙◌, length-append}
use Rattle.std.proofs.lemmas.Result.{err_from_is_err_and}
use Rattle.ring_points.specs.Limits.{most_intervals}
use Rattle.text_fields.specs.Intervals.{interval_at}
use Rattle.text_fields.specs.Lists.{more_at}
use Rattle.text_fields.proofs.ListSteps.{put_at, more_done, more_full, more_bad, more_next}
use Rattle.text_fields.proofs.interval.intervals_at.Goals as goal

pub returns-then-len-eq-MAX_INTERVALS : goal.returns-then-len-eq-MAX_INTERVALS
returns-then-len-eq-MAX_INTERVALS c =
    let is = c.loop-more.intervals.items in
    let full : most_intervals - length is ≡ 0 = omega (arith, c.len.ensures.value, c.if-len-eq-MAX_INTERVALS.true) in
    sym c.loop-more.invariant.1 ∙ more_full interval_at (most_intervals - length is) is c.loop-more.rest.now c.in-Ok-after_word.more.now full c.in-Ok-after_word.ensures

pub returns-in_err-next : goal.returns-in_err-next
returns-in_err-next c =
    let is = c.loop-more.intervals.items in
    let room : 0 < most_intervals - length is = omega (arith, c.loop-more.invariant.0, c.len.ensures.value, c.if-len-eq-MAX_INTERVALS.false) in
    let p = err_from_is_err_and c.from_residual-in_err-next.result c.from_residual-in_err-next.ensures.1 in
    rw p.1 (sym c.loop-more.invariant.1
    ∙ more_bad interval_at (most_intervals - length is) is c.loop-more.rest.now c.in-Ok-after_word.more.now room c.in-Ok-after_word.ensures c.in_err-next.ensures)

pub loop-more-preserved : goal.loop-more-preserved
loop-more-preserved c =
    let is = c.loop-more.intervals.items in
    let next = c.in_ok-next.next in
    let after = c.in_ok-next.after.now in
    let pushed = c.push-in-Ok-after_word.new.self.items in
    let room : 0 < most_intervals - length is = omega (arith, c.loop-more.invariant.0, c.len.ensures.value, c.if-len-eq-MAX_INTERVALS.false) in
    let longer : length pushed ≡ length is + 1 = ap length c.push-in-Ok-after_word.ensures.items ∙ length-append is (next ∷ []) in
    let less : most_intervals - length pushed ≡ most_intervals - length is - 1 = omega arith in (
      omega (arith, longer, room),
      ap (λ xs. put_at xs (more_at interval_at (most_intervals - length pushed) after)) c.push-in-Ok-after_word.ensures.items
          ∙ (ap (λ n. put_at (is ++ next ∷ []) (more_at interval_at n after)) less
          ∙ (more_next interval_at (most_intervals - length is) is c.loop-more.rest.now c.in-Ok-after_word.more.now next after room c.in-Ok-after_word.ensures c.in_ok-next.ensures ∙ c.loop-more.invariant.1)),
    )

pub returns : goal.returns
returns c =
    let is = c.loop-more.intervals.items in
    sym c.loop-more.invariant.1 ∙ more_done interval_at (most_intervals - length is) is c.loop-more.rest.now c.in_default-after_word.ensures
