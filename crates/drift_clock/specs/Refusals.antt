-- Which earlier pair shows that a clock has left its bound.
use Rattle.std.specs.Prelude.{ℕ, ◌+◌, ◌-◌, ◌*◌, Bool, List, [], ◌∷◌, Option, None, Some, nat_lt, if◌then◌else◌}
use Rattle.drift_clock.specs.declared.bound.Bound.{Bound}
use Rattle.drift_clock.specs.Within.{Pair}
use Rattle.drift_clock.specs.Extremes.{Extremes, extreme}

-- how far the advance since the earlier pair is above the most that the bound allows, in thousandths of a tick
abbrev pub fast_excess : Bound → Pair → Pair → ℕ
fast_excess bound now earlier =
    1000 * (now.1 - earlier.1) - ((1000 + bound.d) * (now.0 - earlier.0) + 1000 * bound.grain)

-- how far it is below the least that the bound allows
abbrev pub slow_excess : Bound → Pair → Pair → ℕ
slow_excess bound now earlier =
    (1000 - bound.d) * (now.0 - earlier.0) - (1000 * (now.1 - earlier.1) + 1000 * bound.grain)

-- the pair of greatest excess, the earliest among equals
abbrev pub greatest : (Pair → ℕ) → Pair → List Pair → Pair
greatest excess newest older = extreme (λ a b. nat_lt (excess b) (excess a)) newest older

-- the first of three pairs whose test is true
abbrev pub first_of : Bool → Pair → Bool → Pair → Bool → Pair → Option Pair
first_of a x b y c z = if a then Some x else if b then Some y else if c then Some z else None

-- The pair with which the new one breaks the first broken rule, of a list with the newest first. The
-- rules are: the reading does not fall, the clock is not too fast, it is not too slow.
abbrev pub broken_with : Bound → List Pair → Pair → Option Pair
broken_with bound [] now = None
broken_with bound (newest ∷ older) now =
    let fastest = greatest (fast_excess bound now) newest older in
    let slowest = greatest (slow_excess bound now) newest older in
    first_of (nat_lt now.1 newest.1) newest (nat_lt 0 (fast_excess bound now fastest)) fastest (nat_lt 0 (slow_excess bound now slowest)) slowest

-- the same of the pairs that are kept
abbrev pub broken_with_kept : Extremes → Pair → Option Pair
broken_with_kept drift now =
    first_of (nat_lt now.1 drift.latest.1) drift.latest (nat_lt 0 (fast_excess drift.bound now drift.behind)) drift.behind (nat_lt 0 (slow_excess drift.bound now drift.ahead)) drift.ahead
