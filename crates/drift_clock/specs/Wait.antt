-- How long to wait by one clock.
use Rattle.std.specs.Prelude.{ℕ, ◌+◌, ◌-◌, ◌*◌}
use Rattle.std.specs.Int.{div_ceil}
use Rattle.drift_clock.specs.declared.bound.Bound.{Bound}

-- how long to wait by one clock until x ticks have passed on every other: (x + G)(1000 + d) / (1000 - d), rounded up, and G
abbrev pub wait : Bound → ℕ → ℕ
wait bound x = div_ceil ((x + bound.grain) * (1000 + bound.d)) (1000 - bound.d) + bound.grain

-- how long an heir waits: by then the lease of the accused one and the time for an answer are over by every clock
abbrev pub heir_wait : Bound → (lease answer : ℕ) → ℕ
heir_wait bound lease answer = wait bound (lease + answer)
