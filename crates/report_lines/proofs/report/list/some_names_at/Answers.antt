use Rattle.std.proofs.Common.{◌≡◌, ◌<◌, ◌+◌, ◌-◌, ◌++◌, [], ◌∷◌, List, ℕ, length, arith, sym, ap, ◌∙◌, length-append}
use Rattle.std.proofs.lemmas.Result.{err_from_is_err_and}
use Rattle.ring_points.specs.Limits.{most_listed_names}
use Rattle.text_fields.specs.Lists.{more_at}
use Rattle.text_fields.proofs.ListSteps.{put_at, more_done, more_full, more_bad, more_next}
use Rattle.line_format.specs.Names.{name_at}
use Rattle.report_lines.proofs.report.list.some_names_at.Goals as goal

pub returns-then-len-eq-MAX_LISTED_NAMES : goal.returns-then-len-eq-MAX_LISTED_NAMES
returns-then-len-eq-MAX_LISTED_NAMES c =
    let names = c.loop-more.names.items in
    let full : most_listed_names - length names ≡ 0 = omega (arith, c.len.ensures, c.if-len-eq-MAX_LISTED_NAMES.true) in
    sym c.loop-more.invariant.1 ∙ more_full name_at (most_listed_names - length names) names c.loop-more.rest.now c.in-Ok.more.now full c.in-Ok.ensures

pub returns-in_err-next : goal.returns-in_err-next
returns-in_err-next c =
    let names = c.loop-more.names.items in
    let room : 0 < most_listed_names - length names = omega (arith, c.loop-more.invariant.0, c.len.ensures, c.if-len-eq-MAX_LISTED_NAMES.false) in
    let p = err_from_is_err_and c.from_residual-in_err-next.result c.from_residual-in_err-next.ensures.1 in
    rw (p.1, p.2) (sym c.loop-more.invariant.1
    ∙ more_bad name_at (most_listed_names - length names) names c.loop-more.rest.now c.in-Ok.more.now room c.in-Ok.ensures c.in_err-next.ensures)

pub loop-more-preserved : goal.loop-more-preserved
loop-more-preserved c =
    let names = c.loop-more.names.items in
    let next = c.in_ok-next.next in
    let after = c.in_ok-next.after.now in
    let now = c.push-in-Ok.new.self.items in
    let pushed : now ≡ names ++ next ∷ [] = c.in_ok-push-2.ensures.items in
    let longer : length now ≡ length names + 1 = ap length pushed ∙ length-append names (next ∷ []) in
    let room : 0 < most_listed_names - length names = omega (arith, c.loop-more.invariant.0, c.len.ensures, c.if-len-eq-MAX_LISTED_NAMES.false) in
    let less : most_listed_names - length now ≡ most_listed_names - length names - 1 = omega (arith, longer) in (
      omega (arith, longer, room),
      ap (λ (xs : List (List ℕ)). put_at xs (more_at name_at (most_listed_names - length now) after)) pushed
          ∙ (ap (λ (n : ℕ). put_at (names ++ next ∷ []) (more_at name_at n after)) less
          ∙ (more_next name_at (most_listed_names - length names) names c.loop-more.rest.now c.in-Ok.more.now next after room c.in-Ok.ensures c.in_ok-next.ensures
          ∙ c.loop-more.invariant.1)),
    )

pub returns : goal.returns
returns c =
    let names = c.loop-more.names.items in
    sym c.loop-more.invariant.1 ∙ more_done name_at (most_listed_names - length names) names c.loop-more.rest.now c.in_default.ensures
