use Rattle.std.proofs.Common.{◌≡◌, drop}
use Rattle.text_fields.specs.Fields.{first_of}
use Rattle.line_format.specs.Refusals.{reason_word, plain_reasons}
use Rattle.report_lines.proofs.report.refused.plain_reason_at.Given as goal

-- what is read among the rest is what is read among all
abbrev pub invariant-loop-reason : goal.invariant-loop-reason
invariant-loop-reason l =
    (l.reason-items ≡ plain_reasons) × (first_of reason_word (drop l.reason-index l.reason-items) l.words ≡ first_of reason_word plain_reasons l.words)
