-- The most bytes of the fields whose size is not fixed.
use Rattle.std.specs.Prelude.{ℕ, ◌+◌, ◌*◌}
use Rattle.ring_points.specs.Limits.{most_intervals, most_members, most_write}

-- an interval: two points
abbrev pub interval_size : ℕ
interval_size = 16

-- a range set: a count, and the intervals
abbrev pub most_ranges_size : ℕ
most_ranges_size = 1 + interval_size * most_intervals

-- the members of a configuration: a count, and the nodes
abbrev pub most_members_size : ℕ
most_members_size = 1 + 2 * most_members

-- a partition, an epoch, the primary and the members
abbrev pub most_config_size : ℕ
most_config_size = 12 + most_members_size

-- a flag and a configuration
abbrev pub most_done_size : ℕ
most_done_size = 1 + most_config_size

-- a length and the bytes of a write
abbrev pub most_payload_size : ℕ
most_payload_size = 2 + most_write
