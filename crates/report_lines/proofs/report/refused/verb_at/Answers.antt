use Rattle.std.proofs.Common.{List, ℕ, arith, ap, sym, ◌∙◌}
use Rattle.text_fields.specs.Fields.{after_word}
use Rattle.text_fields.proofs.ChoiceLaws.{first_here, first_next}
use Rattle.line_format.specs.Refusals.{verb_text, all_verbs}
use Rattle.report_lines.proofs.report.refused.verb_at.Goals as goal

pub returns-in-Ok : goal.returns-in-Ok
returns-in-Ok c =
    let e = ap (λ (t : List ℕ). after_word t c.args.words.now) (sym c.verb_text.ensures) ∙ c.in-Ok.ensures in
    sym c.loop-verb.invariant.1
    ∙ first_here verb_text _ all_verbs c.loop-verb.verb-index _ c.args.words.now c.in-Ok.rest.now c.loop-verb.invariant.0 (omega (arith, c.loop-verb-test.true)) e

pub loop-verb-preserved : goal.loop-verb-preserved
loop-verb-preserved c =
    let e = ap (λ (t : List ℕ). after_word t c.args.words.now) (sym c.verb_text.ensures) ∙ c.in_default.ensures in (
      c.loop-verb.invariant.0,
      first_next verb_text _ all_verbs c.loop-verb.verb-index _ c.args.words.now c.loop-verb.invariant.0 (omega (arith, c.loop-verb-test.true)) e
          ∙ c.loop-verb.invariant.1,
    )
