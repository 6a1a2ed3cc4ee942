-- Pauses, and how long something lasts, in ticks.
use Rattle.std.specs.Prelude.{ℕ, ◌+◌, ◌-◌, ◌*◌, ◌/◌, ◌^◌, min, max, Bool, true, false, nat_le, Option, Some, None}

abbrev pub greatest_reading : ℕ
greatest_reading = 2 ^ 64 - 1

-- so many ticks later; readings end at the greatest number
abbrev pub later : ℕ → ℕ → ℕ
later reading ticks = min (reading + ticks) greatest_reading

-- the pause between two commands, at first
abbrev pub first_pause : ℕ → ℕ
first_pause lease = max 1 (lease / 4)

-- For how long a new manager looks before it asks. What it places comes after the pause of its question, so after
-- `heal_after` ticks, or after the pause where that is longer.
abbrev pub look_time : (lease heal_after : ℕ) → ℕ
look_time lease heal_after = heal_after - first_pause lease

-- a pause is doubled up to two leases
abbrev pub doubled : (lease pause : ℕ) → ℕ
doubled lease pause = min (pause * 2) (lease * 2)

-- so many ticks are over since a reading, if there is one
abbrev pub is_over : (now ticks : ℕ) → Option ℕ → Bool
is_over now ticks None = true
is_over now ticks (Some then) = nat_le ticks (now - then)

-- something lasts, since a reading, for so many ticks
abbrev pub lasts : (now ticks : ℕ) → Option ℕ → Bool
lasts now ticks None = false
lasts now ticks (Some then) = nat_le ticks (now - then)

-- since when it lasts, if it does now
abbrev pub since : Bool → (now : ℕ) → Option ℕ → Option ℕ
since false now then = None
since true now None = Some now
since true now (Some then) = Some then
