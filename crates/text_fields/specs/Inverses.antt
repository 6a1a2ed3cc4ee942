-- That a reader and a text are each other's inverse.
use Rattle.std.specs.Prelude.{◌≡◌, ℕ, List, [], ◌∷◌, ◌++◌, false, Option, Some, ◌==◌}
use Rattle.std.specs.Char.{is_ascii_digit}
use Rattle.text_fields.specs.Codes.{comma_code}
use Rattle.text_fields.specs.Fields.{Field}

-- what a field reads from the front is spelled so; what is spelled so is read, where nothing follows that would be a part of it
pub record IsField {A : Type 0} (field : List ℕ → Field A) (Fits : A → Type 0) (text : A → List ℕ) (Ends : List ℕ → Type 0) : Type 0 where
  pub found : (bytes : List ℕ) (x : A × List ℕ) → field bytes ≡ Some x → Fits x.0 × (bytes ≡ text x.0 ++ x.1)
  pub again : (x : A) (rest : List ℕ) → Fits x → Ends rest → field (text x ++ rest) ≡ Some (x, rest)

-- the same for a reader that leaves nothing
pub record IsRest {A : Type 0} (reader : List ℕ → Option A) (Fits : A → Type 0) (text : A → List ℕ) : Type 0 where
  pub found : (bytes : List ℕ) (x : A) → reader bytes ≡ Some x → Fits x × (bytes ≡ text x)
  pub again : (x : A) → Fits x → reader (text x) ≡ Some x

-- whatever follows
abbrev pub EndsAnyhow : List ℕ → Type 0
EndsAnyhow rest = Unit {0}

-- what does not begin with a digit
abbrev pub EndsNumber : List ℕ → Type 0
EndsNumber [] = Unit {0}
EndsNumber (b ∷ bs) = is_ascii_digit b ≡ false

-- what does not begin with a comma
abbrev pub EndsList : List ℕ → Type 0
EndsList [] = Unit {0}
EndsList (b ∷ bs) = (b == comma_code) ≡ false
