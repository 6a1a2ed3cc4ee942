-- The limits of a node's links. Slots and accused instances have theirs in the rules of the ring (slot_count,
-- accused_limit). A constant of the code has its number written apart.
use Rattle.std.specs.Prelude.{ℕ, ◌+◌}
use Rattle.ring_points.specs.Limits.{most_arbiters, most_lease, most_reading}

-- messages of a row: it asks each arbitrator once at most
abbrev pub most_row_messages : ℕ
most_row_messages = most_arbiters

-- notes of a row
abbrev pub most_row_notes : ℕ
most_row_notes = 2

-- the end of a lease that begins at the last reading, in ticks
abbrev pub latest_end : ℕ
latest_end = most_reading + most_lease

-- a lease and the time for an answer, in ticks
abbrev pub longest_span : ℕ
longest_span = most_lease + most_lease
