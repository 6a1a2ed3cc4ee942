-- An heir's wait covers the lease and the answer time of the accused one, by the accused one's own clock.
use Rattle.std.proofs.Common.{◌≡◌, ℕ, ◌+◌, ◌-◌, ◌≤◌, arith, List, [], ◌∷◌, sym, subst, inl, inr}
use Rattle.drift_clock.specs.declared.bound.Bound.{Bound}
use Rattle.drift_clock.specs.Wait.{wait}
use Rattle.drift_clock.specs.Within.{Pair, Within, FitsAll}
use Rattle.drift_clock.proofs.Waits.{waits_cover}
use Rattle.fabric_lemmas.specs.Members.{IsMember}

-- the heir's clock showed `begun` since a moment, and shows `ripe` now; the other showed a stamp no later, and shows `reading` now
pub wait_covers : (bound : Bound) (x since begun now ripe taken stamp reading : ℕ) → bound.d ≤ 100 →
    Within bound (since, begun) (now, ripe) → Within bound (taken, stamp) (now, reading) → taken ≤ since → begun + wait bound x ≤ ripe → stamp + x ≤ reading
wait_covers bound x since begun now ripe taken stamp reading drift heir other old over =
    waits_cover bound x (since, begun) (now, ripe) (taken, stamp) (now, reading) (omega arith) heir over other old (omega arith)

pub FitsAll-IsMember : (bound : Bound) (pairs : List Pair) (now pair : Pair) → FitsAll bound pairs now → IsMember pair pairs → Within bound pair now
FitsAll-IsMember bound [] now pair fits m = absurd m
FitsAll-IsMember bound (first ∷ pairs) now pair fits (inl e) = subst (λ p. Within bound p now) (sym e) fits.0
FitsAll-IsMember bound (first ∷ pairs) now pair fits (inr m) = FitsAll-IsMember bound pairs now pair fits.1 m

pub Within-refl : (bound : Bound) (pair : Pair) → Within bound pair pair
Within-refl bound pair = record {
  times = omega arith;
  readings = omega arith;
  fast = omega arith;
  slow = let z : pair.0 - pair.0 ≡ 0 = omega arith in rw z (omega arith);
}
