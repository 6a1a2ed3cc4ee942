-- Lists of fields, joined by commas, or a dash where they are empty.
use Rattle.std.specs.Prelude.{ℕ, zero, suc, List, [], ◌∷◌, Some, None, codes}
use Rattle.text_fields.specs.Fields.{◌>>=◌, Field, after_word, given, behind}

-- at most k more, each behind a comma
unfoldable pub more_at : {A : Type 0} → (List ℕ → Field A) → ℕ → List ℕ → Field (List A)
more_at field zero bytes = elim (after_word (codes ",") bytes) [ None ↦ Some ([], bytes) | Some rest ↦ None ]
more_at field (suc k) bytes =
    elim (after_word (codes ",") bytes) [
      | None ↦ Some ([], bytes)
      | Some rest ↦ field rest >>= λ x. more_at field k x.1 >>= λ more. Some (x.0 ∷ more.0, more.1)
    ]

-- one, and at most k more
abbrev pub some_at : {A : Type 0} → (List ℕ → Field A) → ℕ → List ℕ → Field (List A)
some_at field k bytes = field bytes >>= λ x. more_at field k x.1 >>= λ more. Some (x.0 ∷ more.0, more.1)

-- none, or one and at most k more
abbrev pub list_at : {A : Type 0} → (List ℕ → Field A) → ℕ → List ℕ → Field (List A)
list_at field k = behind (codes "-") (given []) (some_at field k)
