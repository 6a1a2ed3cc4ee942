-- What a node knows of its links and its points, which it leaves.
use Rattle.std.specs.Prelude.{ℕ, Bool}

pub record Links : Type 0 where
  -- it owns a point
  pub owns : Bool
  -- a flight of its points is out
  pub is_giving : Bool
  -- its link with a node is bound
  pub is_bound : ℕ → Bool
  -- it has an active link with a node
  pub is_active : ℕ → Bool
