-- Bytes that are taken as a record, or are none.
use Rattle.std.proofs.Common.{◌≡◌, ℕ, true, List, Some, None, Ok, Err, Result, ap, sym, subst, ◌∙◌}
use Rattle.fabric_terms.specs.declared.record.Record.{Record}
use Rattle.wire_fields.proofs.Numbers.{AreBytes}
use Rattle.wire_fields.proofs.Forms.{some_same}
use Rattle.keep_log.specs.declared.not_taken.NotTaken.{NotTaken}
use Rattle.keep_log.specs.declared.not_taken.NotTaken.TheVariants.{OutOfPlace, OutOfMemory}
use Rattle.keep_log.specs.Amounts.{Amount, with_record}
use Rattle.keep_log.specs.Places.{Stands, is_next}
use Rattle.keep_log.specs.Readings.{record_of}
use Rattle.keep_log.specs.Taking.{Takes, Took}
use Rattle.keep_log.proofs.Spelled.{record_found, record_again}

-- what stands there is what is read
read_of : (a : Amount) (bytes : List ℕ) (r : Record) → Stands a r bytes → record_of bytes ≡ Some r
read_of a bytes r s = ap record_of s.spelled ∙ record_again r s.sound

pub none_stands : (a : Amount) (bytes : List ℕ) → record_of bytes ≡ None → (r : Record) → Stands a r bytes → ⊥
none_stands a bytes none r s = let some = read_of a bytes r s in cc

pub took : (a after : Amount) (bytes : List ℕ) (r : Record) (result : Result (Unit {0}) NotTaken) → AreBytes bytes → record_of bytes ≡ Some r
    → Takes (is_next a r) (with_record a r) after result → Took a bytes after result
took a after bytes r (Ok done) h is takes =
    let f = record_found bytes r h is in
    (r, (record { sound = f.0; next = takes.0; spelled = f.1 }, takes.1))
took a after bytes r (Err OutOfPlace) h is takes = λ s stands.
    let same : s ≡ r = some_same s r (sym (read_of a bytes s stands) ∙ is) in
    let in_place : is_next a r ≡ true = sym (ap (is_next a) same) ∙ stands.next in
    cc
took a after bytes r (Err OutOfMemory) h is takes =
    let f = record_found bytes r h is in
    (r, record { sound = f.0; next = takes; spelled = f.1 })

pub none_taken : (a after : Amount) (bytes : List ℕ) (refusal : NotTaken) → refusal ≡ OutOfPlace → Took a bytes after (Err refusal)
    → (r : Record) → Stands a r bytes → ⊥
none_taken a after bytes refusal is took = let P : NotTaken → Type 0 = λ e. Took a bytes after (Err e) in subst P is took

pub short_stands : (a after : Amount) (bytes : List ℕ) (refusal : NotTaken) → refusal ≡ OutOfMemory → Took a bytes after (Err refusal)
    → (r : Record) × Stands a r bytes
short_stands a after bytes refusal is took = let P : NotTaken → Type 0 = λ e. Took a bytes after (Err e) in subst P is took
