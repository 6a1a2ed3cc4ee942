-- How a node greets: by which frame version, and for which length.
use Rattle.std.specs.Prelude.{ℕ, Option, Some, None, min}
use Rattle.ring_rules.specs.Rings.{Settings}

-- without a length by frame version 1 for the configured lease, else by version 2
abbrev pub wire_for : Option ℕ → ℕ
wire_for None = 1
wire_for (Some span) = 2

abbrev pub length_for : Settings → Option ℕ → ℕ
length_for c None = c.lease
length_for c (Some span) = min span c.longest
