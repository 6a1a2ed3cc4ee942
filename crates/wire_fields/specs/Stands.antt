-- Where a field stands among some bytes.
use Rattle.std.specs.Prelude.{◌≡◌, ℕ, ◌+◌, ◌≤◌, Bool, List, ◌++◌, length, drop, Option, Some, None, IsTrue}

-- the text stands from one place to another
pub record StandsAt (text bytes : List ℕ) (at end : ℕ) : Type 0 where
  pub inside : at ≤ length bytes
  pub ends : end ≡ at + length text
  pub stands : drop at bytes ≡ text ++ drop end bytes

-- what a reader gives: a value in its ranges, and where its spelling ends; or nothing, where no such value is spelled
abbrev pub ReadsAt : {A : Type 0} → (A → Bool) → (A → List ℕ) → List ℕ → ℕ → Option (A × ℕ) → Type 0
ReadsAt {A} sound spell bytes at (Some x) = IsTrue (sound x.0) × StandsAt (spell x.0) bytes at x.1
ReadsAt {A} sound spell bytes at None = (x : A) (end : ℕ) → IsTrue (sound x) → StandsAt (spell x) bytes at end → ⊥

-- the same for a field that always has `size` bytes
abbrev pub ReadsSized : {A : Type 0} → (A → Bool) → (A → List ℕ) → ℕ → List ℕ → ℕ → Option A → Type 0
ReadsSized {A} sound spell size bytes at (Some x) = IsTrue (sound x) × StandsAt (spell x) bytes at (at + size)
ReadsSized {A} sound spell size bytes at None = (x : A) (end : ℕ) → IsTrue (sound x) → StandsAt (spell x) bytes at end → ⊥
