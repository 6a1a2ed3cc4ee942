-- Readings and waits, in ticks.
use Rattle.std.specs.Prelude.{ℕ, ◌+◌, ◌-◌, ◌^◌, min}

-- readings end at the greatest number of 64 bits
abbrev pub later : ℕ → ℕ → ℕ
later now ticks = min (now + ticks) (2 ^ 64 - 1)

-- the most ticks that one call of the system waits
abbrev pub most_wait : ℕ
most_wait = 1_000_000_000
