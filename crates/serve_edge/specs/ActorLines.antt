-- Where the lines of a file end.
use Rattle.std.specs.Prelude.{◌≡◌, ◌≢◌, ℕ, ◌+◌, ◌≤◌, ◌<◌, List, length, slice_index}

-- the byte before this place is a line feed, if there is one before it, and none follows
pub record IsLinesEnd (bytes : List ℕ) (end : ℕ) : Type 0 where
  pub within : end ≤ length bytes
  pub feed : (k : ℕ) → end ≡ k + 1 → slice_index bytes k ≡ 10
  pub no_feed : (k : ℕ) → end ≤ k → k < length bytes → slice_index bytes k ≢ 10
