-- A body and its spelling: the law of a kind, and the law of a choice between kinds.
use Rattle.std.proofs.Common.{◌≡◌, ℕ, Bool, true, false, cond, List, Option, Some, None, refl, sym, subst, ◌∙◌}
use Rattle.std.specs.Prelude.{IsTrue, ◌==◌, ◌&&◌}
use Rattle.std.proofs.lemmas.Bool.{eqb-true}
use Rattle.fabric_terms.specs.declared.message.Body.{Body}
use Rattle.fabric_terms.specs.Messages.{is_sound_body}
use Rattle.frame_format.specs.Frames.{version_of, kind_of, body_bytes}
use Rattle.wire_fields.specs.Readers.{Field, whole}
use Rattle.wire_fields.proofs.Numbers.{AreBytes}
use Rattle.wire_fields.proofs.Forms.{IsField, whole_found, whole_again}

-- the body is of this version and kind, in the grammar, and spelled by these bytes
pub record IsSpelled (version kind : ℕ) (bytes : List ℕ) (b : Body) : Type 0 where
  pub version_is : version_of b ≡ version
  pub kind_is : kind_of b ≡ kind
  pub sound : IsTrue (is_sound_body b)
  pub spelled : bytes ≡ body_bytes b

-- what is read is spelled so
pub record Finds (version kind : ℕ) (reader : List ℕ → Option Body) : Type 0 where
  pub found : (bytes : List ℕ) (b : Body) → AreBytes bytes → reader bytes ≡ Some b → IsSpelled version kind bytes b

-- a body is made of what a field gives
pub record Makes {A : Type 0} (version kind : ℕ) (s : A → Bool) (spell : A → List ℕ) (make : A → Body) : Type 0 where
  pub version_is : (x : A) → version_of (make x) ≡ version
  pub kind_is : (x : A) → kind_of (make x) ≡ kind
  pub sound : (x : A) → IsTrue (s x) → IsTrue (is_sound_body (make x))
  pub spelled : (x : A) → body_bytes (make x) ≡ spell x

pub kind_found : {A : Type 0} {field : List ℕ → Field A} {s : A → Bool} {spell : A → List ℕ} {make : A → Body} {version kind : ℕ} → IsField field s spell → Makes version kind s spell make → Finds version kind (whole make field)
kind_found {A} {field} {s} {spell} {make} {version} {kind} law makes = record {
  found = λ bytes b h e.
      let f = whole_found law make bytes b h e in
      let P : Body → Type 0 = λ d. IsSpelled version kind bytes d in
      subst P f.3 (record {
        version_is = makes.version_is f.0;
        kind_is = makes.kind_is f.0;
        sound = makes.sound f.0 f.1;
        spelled = f.2 ∙ sym (makes.spelled f.0);
      });
}

pub kind_again : {A : Type 0} {field : List ℕ → Field A} {s : A → Bool} {spell : A → List ℕ} → IsField field s spell → (make : A → Body) (x : A) → IsTrue (s x) → whole make field (spell x) ≡ Some (make x)
kind_again law make x h = whole_again law make x h

-- the first reader at the kind n, and the others at every other kind
pub case_found : {first others : List ℕ → Option Body} (version kind n : ℕ) → Finds version n first → Finds version kind others → Finds version kind (λ bytes. cond (kind == n) (first bytes) (others bytes))
case_found {first} {others} version kind n law law_b = record { found = λ bytes b h e. cases bytes b h (kind == n) refl e }
  where
    cases : (bytes : List ℕ) (b : Body) → AreBytes bytes → (t : Bool) → (kind == n) ≡ t → cond t (first bytes) (others bytes) ≡ Some b → IsSpelled version kind bytes b
    cases bytes b h true t e =
        let P : ℕ → Type 0 = λ k. IsSpelled version k bytes b in
        subst P (sym (eqb-true kind n t)) (law.found bytes b h e)
    cases bytes b h false t e = law_b.found bytes b h e

pub none_finds : (version kind : ℕ) → Finds version kind (λ bytes. None)
none_finds version kind = record { found = λ bytes b h e. cc }

-- a field of which every value will do asks for nothing
pub any_true : (a : Bool) → (a && true) ≡ a
any_true true = refl
any_true false = refl
