-- Logs of a partition: what stands where in one, and how two of them agree. Entries are those of a replica.
use Rattle.std.specs.Prelude.{◌≡◌, ℕ, zero, suc, ◌≤◌, List, [], ◌∷◌, ◌++◌, length, take}
pub use Rattle.replica_core.specs.declared.entry.Entry.{Entry}

-- the element stands at this place of the list, places from 0
abbrev pub IsAt : {A : Type 0} → List A → ℕ → A → Type 0
IsAt [] n x = ⊥
IsAt (y ∷ ys) zero x = y ≡ x
IsAt (y ∷ ys) (suc n) x = IsAt ys n x

-- the second log begins with the first
pub record Prefix (xs ys : List Entry) : Type 0 where
  pub rest : List Entry
  pub is : xs ++ rest ≡ ys

-- both logs have this many entries, and they are the same
pub record Agree (k : ℕ) (xs ys : List Entry) : Type 0 where
  pub left : k ≤ length xs
  pub right : k ≤ length ys
  pub same : take k xs ≡ take k ys
