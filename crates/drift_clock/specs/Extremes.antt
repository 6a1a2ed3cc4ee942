-- What a Drift keeps of the pairs that it stands for.
use Rattle.std.specs.Prelude.{◌≡◌, ◌+◌, ◌-◌, ◌*◌, Bool, List, [], ◌∷◌, Option, None, Some, nat_lt, if◌then◌else◌}
use Rattle.drift_clock.specs.declared.bound.Bound.{Bound}
use Rattle.drift_clock.specs.Within.{Pair, AllWithin}

-- at a the clock is further behind the fastest clock of the bound than at b
abbrev pub is_further_behind : Bound → Pair → Pair → Bool
is_further_behind bound a b = nat_lt ((1000 + bound.d) * b.0 + 1000 * a.1) ((1000 + bound.d) * a.0 + 1000 * b.1)

-- at a the clock is further ahead of the slowest clock of the bound than at b
abbrev pub is_further_ahead : Bound → Pair → Pair → Bool
is_further_ahead bound a b = nat_lt (1000 * b.1 + (1000 - bound.d) * a.0) (1000 * a.1 + (1000 - bound.d) * b.0)

-- the pair that no other exceeds, the earliest of them, of a list with the newest first
abbrev pub extreme : (Pair → Pair → Bool) → Pair → List Pair → Pair
extreme exceeds newest [] = newest
extreme exceeds newest (next ∷ older) =
    let former = extreme exceeds next older in if exceeds newest former then newest else former

-- a bound, the last pair, and the pairs at which the clock was furthest behind and furthest ahead
pub record Extremes : Type 0 where
  pub bound : Bound
  pub latest : Pair
  pub behind : Pair
  pub ahead : Pair

-- what is kept of these pairs, the newest first
abbrev pub kept_of : Bound → List Pair → Option Extremes
kept_of bound [] = None
kept_of bound (newest ∷ older) =
    Some (record { bound = bound; latest = newest; behind = extreme (is_further_behind bound) newest older; ahead = extreme (is_further_ahead bound) newest older })

-- the drift stands for these pairs, the newest first
pub record Stands (drift : Extremes) (pairs : List Pair) : Type 0 where
  pub within : AllWithin drift.bound pairs
  pub kept : kept_of drift.bound pairs ≡ Some drift
