-- What the laws of this crate say.
use Rattle.std.specs.Prelude.{◌≡◌, ℕ, ◌+◌, ◌<◌, ◌≤◌, ◌↔◌, IsTrue, List, ◌∷◌, None, Some, Contains}
use Rattle.drift_clock.specs.declared.bound.Bound.{Bound}
use Rattle.drift_clock.specs.Within.{Pair, Within, FitsAll, AllWithin, is_within, fits_all}
use Rattle.drift_clock.specs.Wait.{wait}
use Rattle.drift_clock.specs.Extremes.{Extremes, Stands}
use Rattle.drift_clock.specs.Refusals.{broken_with}

-- While one clock within the bound advances by the wait for x, every other that was read no later
-- before and no earlier after advances by at least x.
abbrev pub WaitCovers : Type 0
WaitCovers =
    (bound : Bound) (x : ℕ) (began ripe promised over : Pair) → bound.d < 1000 →
    Within bound began ripe → began.1 + wait bound x ≤ ripe.1 →
    Within bound promised over → promised.0 ≤ began.0 → ripe.0 ≤ over.0 →
    promised.1 + x ≤ over.1

-- the tests say what the facts say
abbrev pub TestsDecide : Type 0
TestsDecide =
    ((bound : Bound) (earlier later : Pair) → IsTrue (is_within bound earlier later) ↔ Within bound earlier later)
    × ((bound : Bound) (pairs : List Pair) (now : Pair) → IsTrue (fits_all bound pairs now) ↔ FitsAll bound pairs now)

-- After pairs that are all within the bound, a new pair that is no earlier is refused exactly where it
-- is not within the bound of each, and the pair that is named is one that it does not fit.
abbrev pub NamesTheBroken : Type 0
NamesTheBroken =
    (bound : Bound) (newest : Pair) (older : List Pair) (now : Pair) →
    AllWithin bound (newest ∷ older) → newest.0 ≤ now.0 →
    ((broken_with bound (newest ∷ older) now ≡ None) ↔ FitsAll bound (newest ∷ older) now)
    × ((earlier : Pair) → broken_with bound (newest ∷ older) now ≡ Some earlier → Contains (newest ∷ older) earlier × ¬ Within bound earlier now)

-- the latest pair that is kept is the newest
abbrev pub KeepsTheNewest : Type 0
KeepsTheNewest = (drift : Extremes) (newest : Pair) (older : List Pair) → Stands drift (newest ∷ older) → drift.latest ≡ newest
