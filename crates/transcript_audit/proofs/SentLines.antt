-- A line that tells frames is no line of a report.
use Rattle.std.proofs.Common.{◌≡◌, ℕ, ◌++◌, List, Some, None, refl, ap, ◌∙◌}
use Rattle.std.specs.Prelude.{codes}
use Rattle.line_format.specs.Readers.{report_of, plain_report_of, unit_report_of, manager_report_of, entry_report_of, ring_report_of, peer_report_of, move_of}
use Rattle.text_fields.proofs.FieldLaws.{word_found}
use Rattle.text_fields.specs.Fields.{after_word}

sent_first : (rest : List ℕ) → report_of (codes "sent " ++ rest) ≡ None
unfolding report_of plain_report_of unit_report_of manager_report_of entry_report_of ring_report_of peer_report_of move_of after_word
sent_first rest = refl

pub sent_is_no_report : (words rest : List ℕ) → after_word (codes "sent ") words ≡ Some rest → report_of words ≡ None
sent_is_no_report words rest e = ap report_of (word_found (codes "sent ") words rest e) ∙ sent_first rest
