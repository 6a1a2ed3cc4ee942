-- How fields are put together to a text.
use Rattle.std.specs.Prelude.{◌≡◌, ℕ, List, [], ◌∷◌, length, take, codes}
use Rattle.std.specs.List.{join_by, join_with_byte}
use Rattle.text_fields.specs.Codes.{blank_code}

-- words, with one blank between each two
abbrev pub spaced : List (List ℕ) → List ℕ
spaced words = join_with_byte blank_code words

-- a list with commas, or a dash where it is empty
abbrev pub listed : {A : Type 0} → (A → List ℕ) → List A → List ℕ
listed text [] = codes "-"
listed text (x ∷ xs) = join_by text (codes ",") (x ∷ xs)

-- what stood first stands first still
pub record Keeps (before after : List ℕ) : Type 0 where
  pub front : take (length before) after ≡ before
