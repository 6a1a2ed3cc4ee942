-- A record and its spelling: the law of a kind, and the law of a choice between kinds.
use Rattle.std.proofs.Common.{◌≡◌, ℕ, Bool, true, false, cond, List, Option, Some, None, refl, sym, subst, ◌∙◌}
use Rattle.std.specs.Prelude.{IsTrue, ◌==◌}
use Rattle.std.proofs.lemmas.Bool.{eqb-true}
use Rattle.fabric_terms.specs.declared.record.Record.{Record}
use Rattle.wire_fields.specs.Readers.{Field, whole}
use Rattle.wire_fields.proofs.Numbers.{AreBytes}
use Rattle.wire_fields.proofs.Forms.{IsField, whole_found}
use Rattle.keep_log.specs.Spellings.{is_sound, kind_of, fields_of}

-- the record is of this kind, in its ranges, and its fields are spelled by these bytes
pub record IsSpelled (kind : ℕ) (bytes : List ℕ) (r : Record) : Type 0 where
  pub kind_is : kind_of r ≡ kind
  pub sound : IsTrue (is_sound r)
  pub spelled : bytes ≡ fields_of r

-- what is read is spelled so
pub record Finds (kind : ℕ) (reader : List ℕ → Option Record) : Type 0 where
  pub found : (bytes : List ℕ) (r : Record) → AreBytes bytes → reader bytes ≡ Some r → IsSpelled kind bytes r

-- a record is made of what a field gives
pub record Makes {A : Type 0} (kind : ℕ) (s : A → Bool) (spell : A → List ℕ) (make : A → Record) : Type 0 where
  pub kind_is : (x : A) → kind_of (make x) ≡ kind
  pub sound : (x : A) → IsTrue (s x) → IsTrue (is_sound (make x))
  pub spelled : (x : A) → fields_of (make x) ≡ spell x

pub kind_found : {A : Type 0} {field : List ℕ → Field A} {s : A → Bool} {spell : A → List ℕ} {make : A → Record} {kind : ℕ}
    → IsField field s spell → Makes kind s spell make → Finds kind (whole make field)
kind_found {A} {field} {s} {spell} {make} {kind} law makes = record {
  found = λ bytes r h e.
      let f = whole_found law make bytes r h e in
      let P : Record → Type 0 = λ d. IsSpelled kind bytes d in
      subst P f.3 (record {
        kind_is = makes.kind_is f.0;
        sound = makes.sound f.0 f.1;
        spelled = f.2 ∙ sym (makes.spelled f.0);
      });
}

-- the first reader at the kind n, and the others at every other kind
pub case_found : {first others : List ℕ → Option Record} (kind n : ℕ) → Finds n first → Finds kind others
    → Finds kind (λ bytes. cond (kind == n) (first bytes) (others bytes))
case_found {first} {others} kind n law law_b = record { found = λ bytes r h e. cases bytes r h (kind == n) refl e }
  where
    cases : (bytes : List ℕ) (r : Record) → AreBytes bytes → (t : Bool) → (kind == n) ≡ t → cond t (first bytes) (others bytes) ≡ Some r → IsSpelled kind bytes r
    cases bytes r h true t e =
        let P : ℕ → Type 0 = λ k. IsSpelled k bytes r in
        subst P (sym (eqb-true kind n t)) (law.found bytes r h e)
    cases bytes r h false t e = law_b.found bytes r h e

pub none_finds : (kind : ℕ) → Finds kind (λ bytes. None)
none_finds kind = record { found = λ bytes r h e. cc }
