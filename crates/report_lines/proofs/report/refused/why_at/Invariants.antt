use Rattle.std.proofs.Common.{◌≡◌, drop}
use Rattle.text_fields.specs.Fields.{first_of}
use Rattle.line_format.specs.Refusals.{why_text, all_whys}
use Rattle.report_lines.proofs.report.refused.why_at.Given as goal

-- what is read among the rest is what is read among all
abbrev pub invariant-loop-why : goal.invariant-loop-why
invariant-loop-why l =
    (l.why-items ≡ all_whys) × (first_of why_text (drop l.why-index l.why-items) l.words ≡ first_of why_text all_whys l.words)
