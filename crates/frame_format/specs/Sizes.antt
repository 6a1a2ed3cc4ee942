-- The most bytes of a body.
use Rattle.std.specs.Prelude.{ℕ, ◌+◌}
use Rattle.wire_fields.specs.Sizes.{most_ranges_size}

-- the longest body is a Renew: the session, a stamp, a version, what was got, a flag and the ranges
abbrev pub most_body_size : ℕ
most_body_size = 25 + most_ranges_size
