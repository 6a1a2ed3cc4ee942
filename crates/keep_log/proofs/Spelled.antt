-- What is read as a record is spelled so, what is spelled so is read, and no two records have one spelling.
use Rattle.std.proofs.Common.{◌≡◌, ℕ, List, ◌++◌, Some, refl, ap, sym, ◌∙◌}
use Rattle.std.specs.Prelude.{IsTrue}
use Rattle.fabric_terms.specs.declared.record.Record.{Record}
use Rattle.wire_fields.proofs.Numbers.{AreBytes, bytes_behind}
use Rattle.wire_fields.specs.Readers.{◌>>=◌, Field, byte_at}
use Rattle.wire_fields.specs.Texts.{one_byte}
use Rattle.wire_fields.proofs.Forms.{bind_some, byte_is, some_same}
use Rattle.keep_log.specs.Laws.{OneSpelling}
use Rattle.keep_log.specs.Readings.{fields_read, record_of}
use Rattle.keep_log.specs.Spellings.{is_sound, kind_of, fields_of, spelling}
use Rattle.keep_log.proofs.KindLaws.{fields_found, fields_again}

pub record_found : (bytes : List ℕ) (r : Record) → AreBytes bytes → record_of bytes ≡ Some r → IsTrue (is_sound r) × (bytes ≡ spelling r)
unfolding record_of one_byte
record_found bytes r h e =
    let a = bind_some (byte_at bytes) (λ (x : ℕ × List ℕ). fields_read x.0 x.1) r e in
    let b = byte_is.found bytes a.0 h a.1 in
    let f = (fields_found a.0.0).found a.0.1 r (bytes_behind bytes (one_byte a.0.0) a.0.1 h b.1) a.2 in
    (f.sound, b.1 ∙ (ap (λ k. one_byte k ++ a.0.1) (sym f.kind_is) ∙ ap (λ bs. one_byte (kind_of r) ++ bs) f.spelled))

pub record_again : (r : Record) → IsTrue (is_sound r) → record_of (spelling r) ≡ Some r
unfolding record_of one_byte
record_again r h =
    ap (λ (o : Field ℕ). o >>= λ x. fields_read x.0 x.1) (byte_is.again (kind_of r) (fields_of r) refl) ∙ fields_again r h

pub one_spelling : OneSpelling
one_spelling r s hr hs e = some_same r s (sym (record_again r hr) ∙ (ap record_of e ∙ record_again s hs))
