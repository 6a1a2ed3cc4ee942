use Rattle.std.proofs.Common.{List, ℕ, arith, ap, sym, ◌∙◌}
use Rattle.text_fields.specs.Fields.{after_word}
use Rattle.text_fields.proofs.ChoiceLaws.{first_here, first_next}
use Rattle.line_format.specs.Refusals.{why_text, all_whys}
use Rattle.report_lines.proofs.report.refused.why_at.Goals as goal

pub returns-in-Ok : goal.returns-in-Ok
returns-in-Ok c =
    let e = ap (λ (t : List ℕ). after_word t c.args.words.now) (sym c.why_text.ensures) ∙ c.in-Ok.ensures in
    sym c.loop-why.invariant.1
    ∙ first_here why_text _ all_whys c.loop-why.why-index _ c.args.words.now c.in-Ok.rest.now c.loop-why.invariant.0 (omega (arith, c.loop-why-test.true)) e

pub loop-why-preserved : goal.loop-why-preserved
loop-why-preserved c =
    let e = ap (λ (t : List ℕ). after_word t c.args.words.now) (sym c.why_text.ensures) ∙ c.in_default.ensures in (
      c.loop-why.invariant.0,
      first_next why_text _ all_whys c.loop-why.why-index _ c.args.words.now c.loop-why.invariant.0 (omega (arith, c.loop-why-test.true)) e
          ∙ c.loop-why.invariant.1,
    )
