-- A report that begins with `own` tells what a node owns.
use Rattle.std.proofs.Common.{◌≡◌, ℕ, ◌++◌, List, Some, refl, ap, ◌∙◌}
use Rattle.std.specs.Prelude.{codes}
use Rattle.line_format.specs.Readers.{report_of, plain_report_of, unit_report_of, manager_report_of, entry_report_of, ring_report_of, own_of}
use Rattle.text_fields.proofs.FieldLaws.{word_found}
use Rattle.text_fields.specs.Fields.{after_word}

own_first : (rest : List ℕ) → report_of (codes "own " ++ rest) ≡ own_of rest
unfolding report_of plain_report_of unit_report_of manager_report_of entry_report_of ring_report_of after_word
own_first rest = refl

pub own_is_told : (words rest : List ℕ) → after_word (codes "own ") words ≡ Some rest → report_of words ≡ own_of rest
own_is_told words rest e = ap report_of (word_found (codes "own ") words rest e) ∙ own_first rest
