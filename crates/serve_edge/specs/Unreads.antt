-- The bytes that wait for a client.
use Rattle.std.specs.Prelude.{ℕ, List, Option, Some, None, nat_le, if◌then◌else◌}

-- what waits, and how many bytes may
pub record Waiting : Type 0 where
  pub bytes : List ℕ
  pub most : ℕ

-- so many bytes may wait for a client of the door, and for a parent only so long
abbrev pub most_unread : ℕ
most_unread = 262144

-- the reading from which on so many bytes have waited without a break, with what waits at this reading
abbrev pub full_since : Option ℕ → ℕ → ℕ → Option ℕ
full_since None waiting now = if nat_le most_unread waiting then Some now else None
full_since (Some since) waiting now = if nat_le most_unread waiting then Some since else None
