-- Majorities of a list of actors.
use Rattle.std.specs.Prelude.{◌≡◌, ℕ, suc, ◌+◌, ◌<◌, Bool, true, cond, List, [], ◌∷◌, length}

-- how many of the list pass
abbrev pub count : (ℕ → Bool) → List ℕ → ℕ
count f [] = 0
count f (x ∷ xs) = cond (f x) (suc (count f xs)) (count f xs)

-- it holds of more than half of the list
pub record MajorityOf (xs : List ℕ) (P : ℕ → Type 0) : Type 0 where
  pub by : ℕ → Bool
  pub each : (n : ℕ) → by n ≡ true → P n
  pub most : length xs < count by xs + count by xs
