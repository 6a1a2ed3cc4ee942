-- How the records of an actor stand in its file.
use Rattle.std.specs.Prelude.{◌≡◌, ℕ, ◌/◌, ◌%◌, ◌^◌, ◌<◌, List, ◌∷◌, ◌++◌, length}

-- a record in its file: its length in two bytes, big-endian, then the record
abbrev pub framed : List ℕ → List ℕ
framed bytes = length bytes / 256 ∷ length bytes % 256 ∷ bytes

-- the bytes do not begin with a whole record
abbrev pub IsIncomplete : List ℕ → Type 0
IsIncomplete bytes = (first rest : List ℕ) → length first < 2 ^ 16 → bytes ≡ framed first ++ rest → ⊥
