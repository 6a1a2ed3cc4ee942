-- The tests on pairs say what the facts say.
use Rattle.std.proofs.Common.{ℕ, ◌+◌, ◌*◌, ◌-◌, ◌≤◌, List, [], ◌∷◌, refl, leb-true, le-leb, nat_le}
use Rattle.std.specs.Bool.{Decides}
use Rattle.std.proofs.lemmas.Bool.Decides.{Decides-and, Decides-like}
use Rattle.drift_clock.specs.declared.bound.Bound.{Bound}
use Rattle.drift_clock.specs.Within.{Pair, Within, FitsAll, is_within, fits_all}
use Rattle.drift_clock.specs.Laws.{TestsDecide}

Decides-le : (a b : ℕ) → Decides (nat_le a b) (a ≤ b)
Decides-le a b = (leb-true a b, le-leb a b)

pub within_decided : (bound : Bound) (earlier later : Pair) → Decides (is_within bound earlier later) (Within bound earlier later)
within_decided bound earlier later =
    let time : ℕ = later.0 - earlier.0 in
    let reading : ℕ = later.1 - earlier.1 in
    let fast = Decides-le (1000 * reading) ((1000 + bound.d) * time + 1000 * bound.grain) in
    let slow = Decides-le ((1000 - bound.d) * time) (1000 * reading + 1000 * bound.grain) in
    let order = Decides-and _ _ (Decides-le earlier.0 later.0) (Decides-le earlier.1 later.1) in
    Decides-like (is_within bound earlier later)
    (λ h. record { times = h.0.0.0; readings = h.0.0.1; fast = h.0.1; slow = h.1 })
    (λ w. (((w.times, w.readings), w.fast), w.slow))
    (Decides-and _ _ (Decides-and _ _ order fast) slow)

pub fits_decided : (bound : Bound) (pairs : List Pair) (now : Pair) → Decides (fits_all bound pairs now) (FitsAll bound pairs now)
fits_decided bound [] now = (λ _. tt, λ _. refl)
fits_decided bound (p ∷ ps) now =
    Decides-and (is_within bound p now) (fits_all bound ps now) (within_decided bound p now) (fits_decided bound ps now)

pub tests_decided : TestsDecide
tests_decided = (within_decided, fits_decided)
