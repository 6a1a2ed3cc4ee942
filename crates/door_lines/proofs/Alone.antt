-- Words that stand alone.
use Rattle.std.proofs.Common.{◌≡◌, ◌≢◌, ℕ, Bool, true, false, cond, ⊎_elim, List, [], Option, Some, refl, subst, ◌∙◌}
use Rattle.std.specs.Str.{bytes_eq}
use Rattle.std.proofs.lemmas.Slice.Eq.{bytes_eq-Decides}
use Rattle.text_fields.proofs.Numbers.{chosen, some_same}
use Rattle.text_fields.proofs.RestLaws.{IsSpelled}
use Rattle.door_lines.specs.Requests.{alone}

pub alone_found : {E : Type 0} (Fits : E → Type 0) (text : E → List ℕ) (word : List ℕ) (x : E) (other : List ℕ → Option E) → Fits x → word ≡ text x
    → IsSpelled Fits text [] other → IsSpelled Fits text [] (alone word x other)
alone_found {E} Fits text word x other fits spelled others bytes e h =
    ⊎_elim
    (λ yes. subst (λ (v : E). Fits v × (bytes ≡ text v)) (some_same x e yes.1) (fits, (bytes_eq-Decides bytes word).0 yes.0 ∙ spelled))
    (λ no. others bytes e no.1)
    (chosen (bytes_eq bytes word) (Some x) (other bytes) (Some e) h)

-- other words are for the other reader
pub alone_other : {E : Type 0} (word : List ℕ) (x : E) (other : List ℕ → Option E) (bytes : List ℕ) → bytes ≢ word → alone word x other bytes ≡ other bytes
alone_other {E} word x other bytes differs = cases (bytes_eq bytes word) refl
  where
    cases : (b : Bool) → bytes_eq bytes word ≡ b → cond b (Some x) (other bytes) ≡ other bytes
    cases true is = absurd (differs ((bytes_eq-Decides bytes word).0 is))
    cases false is = refl
