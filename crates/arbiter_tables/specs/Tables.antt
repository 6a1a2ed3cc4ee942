-- What is asked of a table as a whole.
use Rattle.std.specs.Prelude.{ℕ, ◌+◌, length}
use Rattle.ring_rules.specs.Arbiters.{Table}

-- an entry is an accused instance, or the claimer of a later round
abbrev pub entries_of : Table → ℕ
entries_of table = length table.accusations + length table.claims
