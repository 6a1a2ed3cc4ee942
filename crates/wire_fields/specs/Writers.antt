-- How a field is written.
use Rattle.std.specs.Prelude.{◌≡◌, ℕ, ◌+◌, ◌≤◌, List, ◌++◌, length, take, drop}

-- the text is put from one place to another, and everything else is left as it was
pub record Puts (text old : List ℕ) (at : ℕ) (new : List ℕ) (end : ℕ) : Type 0 where
  pub ends : end ≡ at + length text
  pub inside : end ≤ length old
  pub bytes : new ≡ take at old ++ text ++ drop end old
