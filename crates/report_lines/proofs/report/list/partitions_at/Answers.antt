use Rattle.std.proofs.Common.{◌≡◌, ◌<◌, ◌≤◌, ◌+◌, ◌-◌, ◌++◌, [], ◌∷◌, List, ℕ, length, arith, sym, ap, ◌∙◌, length-append}
use Rattle.std.proofs.lemmas.Result.{err_from_is_err_and}
use Rattle.text_fields.specs.Lists.{more_at}
use Rattle.text_fields.proofs.ListSteps.{put_at, list_first, more_done, more_bad, more_next}
use Rattle.line_format.specs.Commands.{partition_at}
use Rattle.line_format.proofs.CountLaws.{behind_partition, behind_comma}
use Rattle.report_lines.proofs.report.list.partitions_at.Goals as goal

pub loop-more-init : goal.loop-more-init
loop-more-init c =
    let ws = c.args.words.now in
    let p = c.in_ok-first.first in
    let rest = c.in_ok-first.rest.now in
    let ps = c.push.new.self.items in
    let pushed : ps ≡ p ∷ [] = c.in_ok-push.ensures.items ∙ ap (λ (xs : List ℕ). xs ++ p ∷ []) c.new-partitions.ensures.items in
    let one : length ps ≡ 1 = ap length pushed in
    let room : length ws + 1 - length ps ≡ length ws = omega (arith, one) in (
      omega (arith, one, behind_partition ws p rest c.in_ok-first.ensures),
      ap (λ (xs : List ℕ). put_at xs (more_at partition_at (length ws + 1 - length ps) rest)) pushed
          ∙ (ap (λ (n : ℕ). put_at (p ∷ []) (more_at partition_at n rest)) room
          ∙ list_first partition_at (length ws) ws p rest c.in_default.ensures c.in_ok-first.ensures),
    )

pub returns-in_err-next : goal.returns-in_err-next
returns-in_err-next c =
    let ws = c.args.words.now in
    let ps = c.loop-more.partitions.items in
    let rest = c.loop-more.rest.now in
    let more = c.in-Ok-after_word.more.now in
    let room : 0 < length ws + 1 - length ps = omega (arith, c.loop-more.invariant.0, behind_comma rest more c.in-Ok-after_word.ensures) in
    let p = err_from_is_err_and c.from_residual-in_err-next.result c.from_residual-in_err-next.ensures.1 in
    rw (p.1, p.2) (sym c.loop-more.invariant.1
    ∙ more_bad partition_at (length ws + 1 - length ps) ps rest more room c.in-Ok-after_word.ensures c.in_err-next.ensures)

pub loop-more-smaller : goal.loop-more-smaller
loop-more-smaller c =
    let more = c.in-Ok-after_word.more.now in
    omega (arith, behind_comma c.loop-more.rest.now more c.in-Ok-after_word.ensures, behind_partition more c.in_ok-next.next c.in_ok-next.after.now c.in_ok-next.ensures)

pub loop-more-preserved : goal.loop-more-preserved
loop-more-preserved c =
    let ws = c.args.words.now in
    let ps = c.loop-more.partitions.items in
    let rest = c.loop-more.rest.now in
    let more = c.in-Ok-after_word.more.now in
    let next = c.in_ok-next.next in
    let after = c.in_ok-next.after.now in
    let now = c.push-in-Ok-after_word.new.self.items in
    let comma : length rest ≡ length more + 1 = behind_comma rest more c.in-Ok-after_word.ensures in
    let short : length after ≤ length more = behind_partition more next after c.in_ok-next.ensures in
    let pushed : now ≡ ps ++ next ∷ [] = c.in_ok-push-2.ensures.items in
    let longer : length now ≡ length ps + 1 = ap length pushed ∙ length-append ps (next ∷ []) in
    let room : 0 < length ws + 1 - length ps = omega (arith, c.loop-more.invariant.0, comma) in
    let less : length ws + 1 - length now ≡ length ws + 1 - length ps - 1 = omega (arith, longer) in (
      omega (arith, c.loop-more.invariant.0, comma, short, longer),
      ap (λ (xs : List ℕ). put_at xs (more_at partition_at (length ws + 1 - length now) after)) pushed
          ∙ (ap (λ (n : ℕ). put_at (ps ++ next ∷ []) (more_at partition_at n after)) less
          ∙ (more_next partition_at (length ws + 1 - length ps) ps rest more next after room c.in-Ok-after_word.ensures c.in_ok-next.ensures
          ∙ c.loop-more.invariant.1)),
    )

pub returns : goal.returns
returns c =
    let ps = c.loop-more.partitions.items in
    sym c.loop-more.invariant.1 ∙ more_done partition_at (length c.args.words.now + 1 - length ps) ps c.loop-more.rest.now c.in_default-after_word.ensures
