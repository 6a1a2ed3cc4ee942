-- What readings a clock within its bound may show.
use Rattle.std.specs.Prelude.{ℕ, ◌+◌, ◌-◌, ◌*◌, ◌≤◌, Bool, ◌&&◌, List, [], ◌∷◌, nat_le}
use Rattle.std.specs.List.{list_all, AllByRecursion}
use Rattle.drift_clock.specs.declared.bound.Bound.{Bound}

-- a true time, and the reading that the clock shows then
abbrev pub Pair : Type 0
Pair = ℕ × ℕ

-- neither the true time nor the reading falls, and the clock is neither too fast nor too slow
pub record Within (bound : Bound) (earlier later : Pair) : Type 0 where
  pub times : earlier.0 ≤ later.0
  pub readings : earlier.1 ≤ later.1
  pub fast : 1000 * (later.1 - earlier.1) ≤ (1000 + bound.d) * (later.0 - earlier.0) + 1000 * bound.grain
  pub slow : (1000 - bound.d) * (later.0 - earlier.0) ≤ 1000 * (later.1 - earlier.1) + 1000 * bound.grain

-- the new pair is within the bound of every pair of the list
abbrev pub FitsAll : Bound → List Pair → Pair → Type 0
FitsAll bound pairs now = AllByRecursion (λ earlier. Within bound earlier now) pairs

-- every two pairs of the list, which has the newest first
abbrev pub AllWithin : Bound → List Pair → Type 0
AllWithin bound [] = Unit {0}
AllWithin bound (newest ∷ older) = FitsAll bound older newest × AllWithin bound older

-- the same of two pairs, as a test
abbrev pub is_within : Bound → Pair → Pair → Bool
is_within bound earlier later =
    let time = later.0 - earlier.0 in
    let reading = later.1 - earlier.1 in
    nat_le earlier.0 later.0
    && nat_le earlier.1 later.1
    && nat_le (1000 * reading) ((1000 + bound.d) * time + 1000 * bound.grain)
    && nat_le ((1000 - bound.d) * time) (1000 * reading + 1000 * bound.grain)

abbrev pub fits_all : Bound → List Pair → Pair → Bool
fits_all bound pairs now = list_all (λ earlier. is_within bound earlier now) pairs
