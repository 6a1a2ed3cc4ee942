-- A clock within the bound stays within it, if it goes on as true time does.
use Rattle.std.proofs.Common.{◌≡◌, ℕ, ◌+◌, ◌-◌, ◌*◌, ◌≤◌, true, List, [], ◌∷◌, inl, inr, refl, arith}
use Rattle.drift_clock.proofs.Decided.{fits_decided}
use Rattle.drift_clock.specs.declared.bound.Bound.{Bound}
use Rattle.drift_clock.specs.Within.{FitsAll, Pair, Within, fits_all}
use Rattle.fabric_lemmas.specs.Members.{IsMember}

fast_on : (d g more t r : ℕ) → 1000 * r ≤ (1000 + d) * t + 1000 * g → 1000 * (r + more) ≤ (1000 + d) * (t + more) + 1000 * g
fast_on d g more t r h = grind (arith, h)

slow_on : (s g more t r : ℕ) → s ≤ 1000 → s * t ≤ 1000 * r + 1000 * g → s * (t + more) ≤ 1000 * (r + more) + 1000 * g
slow_on s g more t r le h = grind (arith, h, le)

pub goes_on : (bound : Bound) (earlier later : Pair) (more : ℕ) → Within bound earlier later → Within bound earlier (later.0 + more, later.1 + more)
goes_on bound earlier later more w = record {
  times = let le = w.times in omega arith;
  readings = let le = w.readings in omega arith;
  fast =
      (let t : later.0 + more - earlier.0 ≡ (later.0 - earlier.0) + more = (let le = w.times in omega arith) in
      let r : later.1 + more - earlier.1 ≡ (later.1 - earlier.1) + more = (let le = w.readings in omega arith) in
      rw (t, r) (fast_on bound.d bound.grain more (later.0 - earlier.0) (later.1 - earlier.1) w.fast));
  slow =
      (let t : later.0 + more - earlier.0 ≡ (later.0 - earlier.0) + more = (let le = w.times in omega arith) in
      let r : later.1 + more - earlier.1 ≡ (later.1 - earlier.1) + more = (let le = w.readings in omega arith) in
      rw (t, r) (slow_on (1000 - bound.d) bound.grain more (later.0 - earlier.0) (later.1 - earlier.1) (omega arith) w.slow));
}

-- so it fits all pairs that the present one fits
pub fits_on : (bound : Bound) (pairs : List Pair) (now : Pair) (more : ℕ) → ((pair : Pair) → IsMember pair pairs → Within bound pair now) →
    FitsAll bound pairs (now.0 + more, now.1 + more)
fits_on bound [] now more each = tt
fits_on bound (p ∷ ps) now more each = (goes_on bound p now more (each p (inl refl)), fits_on bound ps now more (λ q m. each q (inr m)))

pub fits_tested : (bound : Bound) (pairs : List Pair) (now : Pair) → FitsAll bound pairs now → fits_all bound pairs now ≡ true
fits_tested bound pairs now h = (fits_decided bound pairs now).1 h
