-- How many partitions a node knows, and the bits of a word of a mask.
use Rattle.std.specs.Prelude.{ℕ}

-- partitions that a node knows
abbrev pub most_units : ℕ
most_units = 4096

-- bits of a word
abbrev pub word_bits : ℕ
word_bits = 64
