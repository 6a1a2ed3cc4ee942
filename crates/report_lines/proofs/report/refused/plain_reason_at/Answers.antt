use Rattle.std.proofs.Common.{List, ℕ, arith, ap, sym, ◌∙◌}
use Rattle.text_fields.specs.Fields.{after_word}
use Rattle.text_fields.proofs.ChoiceLaws.{first_here, first_next}
use Rattle.line_format.specs.Refusals.{reason_word, plain_reasons}
use Rattle.report_lines.proofs.report.refused.plain_reason_at.Goals as goal

pub returns-in-Ok : goal.returns-in-Ok
returns-in-Ok c =
    let e = ap (λ (t : List ℕ). after_word t c.args.words.now) (sym c.reason_word.ensures) ∙ c.in-Ok.ensures in
    sym c.loop-reason.invariant.1
    ∙ first_here reason_word _ plain_reasons c.loop-reason.reason-index _ c.args.words.now c.in-Ok.rest.now c.loop-reason.invariant.0 (omega (arith, c.loop-reason-test.true)) e

pub loop-reason-preserved : goal.loop-reason-preserved
loop-reason-preserved c =
    let e = ap (λ (t : List ℕ). after_word t c.args.words.now) (sym c.reason_word.ensures) ∙ c.in_default.ensures in (
      c.loop-reason.invariant.0,
      first_next reason_word _ plain_reasons c.loop-reason.reason-index _ c.args.words.now c.loop-reason.invariant.0 (omega (arith, c.loop-reason-test.true)) e ∙ c.loop-reason.invariant.1,
    )
