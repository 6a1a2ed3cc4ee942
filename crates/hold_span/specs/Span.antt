-- How long a promise lasts by another clock.
use Rattle.std.specs.Prelude.{ℕ, ◌+◌, ◌-◌, ◌*◌, ◌/◌}
use Rattle.drift_clock.specs.declared.bound.Bound.{Bound}

-- how many ticks of any clock surely pass before the clock that reads now reaches the fence:
-- (fence - now - G)(1000 - d) / (1000 + d), rounded down, less G
abbrev pub span : Bound → (fence now : ℕ) → ℕ
span bound fence now = (fence - now - bound.grain) * (1000 - bound.d) / (1000 + bound.d) - bound.grain
