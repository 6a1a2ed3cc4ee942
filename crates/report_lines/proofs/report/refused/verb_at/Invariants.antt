use Rattle.std.proofs.Common.{◌≡◌, drop}
use Rattle.text_fields.specs.Fields.{first_of}
use Rattle.line_format.specs.Refusals.{verb_text, all_verbs}
use Rattle.report_lines.proofs.report.refused.verb_at.Given as goal

-- what is read among the rest is what is read among all
abbrev pub invariant-loop-verb : goal.invariant-loop-verb
invariant-loop-verb l =
    (l.verb-items ≡ all_verbs) × (first_of verb_text (drop l.verb-index l.verb-items) l.words ≡ first_of verb_text all_verbs l.words)
