-- The pair that a refusal names.
use Rattle.std.proofs.Common.{◌≡◌, ℕ, suc, ◌≤◌, Bool, true, false, List, [], ◌∷◌, Some, None, refl, sym, subst, arith, nat_lt, ◌⊎◌, inl, inr, ltb-true, ltb-false, le-ltb, if◌then◌else◌, Contains}
use Rattle.std.specs.List.{AllByRecursion}
use Rattle.drift_clock.specs.declared.bound.Bound.{Bound}
use Rattle.drift_clock.specs.Within.{Pair, Within, FitsAll, AllWithin}
use Rattle.drift_clock.specs.Extremes.{extreme}
use Rattle.drift_clock.specs.Refusals.{greatest, fast_excess, slow_excess, first_of, broken_with}
use Rattle.drift_clock.specs.Laws.{NamesTheBroken}
use Rattle.drift_clock.proofs.Greatest.{Orders, IsGreatest, extreme_is_greatest, extreme-keeps, weaker}
use Rattle.drift_clock.proofs.Excesses.{NoLater, earlier_pairs}

pub record NoneTrue (a b c : Bool) : Type 0 where
  pub first : a ≡ false
  pub second : b ≡ false
  pub third : c ≡ false

pub none_named : (a b c : Bool) (x y z : Pair) → first_of a x b y c z ≡ None → NoneTrue a b c
none_named true b c x y z e = absurd (cc)
none_named false true c x y z e = absurd (cc)
none_named false false true x y z e = absurd (cc)
none_named false false false x y z e = record { first = refl; second = refl; third = refl }

pub some_named : (a b c : Bool) (x y z e : Pair) → first_of a x b y c z ≡ Some e → ((a ≡ true) × (e ≡ x)) ⊎ (((b ≡ true) × (e ≡ y)) ⊎ ((c ≡ true) × (e ≡ z)))
some_named true b c x y z e is = inl (refl, cc)
some_named false true c x y z e is = inr (inl (refl, cc))
some_named false false true x y z e is = inr (inr (refl, cc))
some_named false false false x y z e is = absurd (cc)

any_pairs : (pairs : List Pair) → AllByRecursion (λ _. Unit {0}) pairs
any_pairs [] = tt
any_pairs (p ∷ ps) = (tt, any_pairs ps)

greatest_orders : (excess : Pair → ℕ) → Orders (λ _. Unit {0}) (λ a b. nat_lt (excess b) (excess a)) excess
greatest_orders excess = record {
  above = λ a b _ _ h. let lt = ltb-true (excess b) (excess a) h in omega arith;
  strictly = λ a b _ _ h _. ltb-true (excess b) (excess a) h;
  below = λ a b _ _ h. ltb-false (excess b) (excess a) h;
}

greatest_is : (excess : Pair → ℕ) (newest : Pair) (older : List Pair) → IsGreatest excess newest older (greatest excess newest older)
greatest_is excess newest older =
    extreme_is_greatest (λ _. Unit {0}) (λ a b. nat_lt (excess b) (excess a)) excess (greatest_orders excess) newest older (any_pairs (newest ∷ older))

extreme_is_in : (exceeds : Pair → Pair → Bool) (newest : Pair) (older : List Pair) → Contains (newest ∷ older) (extreme exceeds newest older)
extreme_is_in exceeds newest [] = (0, omega arith, refl)
extreme_is_in exceeds newest (next ∷ older) =
    elim (exceeds newest (extreme exceeds next older)) as (λ b. Contains (newest ∷ next ∷ older) (if b then newest else extreme exceeds next older)) [
      | true ↦ (0, omega arith, refl)
      | false ↦ let i = extreme_is_in exceeds next older in (suc i.0, omega (arith, i.1), i.2)
    ]

greatest_is_in : (excess : Pair → ℕ) (newest : Pair) (older : List Pair) → Contains (newest ∷ older) (greatest excess newest older)
greatest_is_in excess = extreme_is_in (λ a b. nat_lt (excess b) (excess a))

no_excess : (excess : Pair → ℕ) (newest : Pair) (older : List Pair) → excess (greatest excess newest older) ≤ 0 → AllByRecursion (λ p. excess p ≤ 0) (newest ∷ older)
no_excess excess newest older none =
    let g = greatest excess newest older in
    weaker (λ p. excess p ≤ excess g) (λ p. excess p ≤ 0) (newest ∷ older) (λ p h. omega arith) (greatest_is excess newest older).all

all_fit : (bound : Bound) (now : Pair) (pairs : List Pair) → AllByRecursion (NoLater now) pairs → AllByRecursion (λ p. fast_excess bound now p ≤ 0) pairs → AllByRecursion (λ p. slow_excess bound now p ≤ 0) pairs → FitsAll bound pairs now
all_fit bound now [] no_later fast slow = tt
all_fit bound now (p ∷ ps) no_later fast slow =
    (record { times = no_later.0.time; readings = no_later.0.reading; fast = omega (arith, fast.0); slow = omega (arith, slow.0) }, all_fit bound now ps no_later.1 fast.1 slow.1)

fits_named : (bound : Bound) (newest : Pair) (older : List Pair) (now : Pair) → AllWithin bound (newest ∷ older) → newest.0 ≤ now.0 → broken_with bound (newest ∷ older) now ≡ None → FitsAll bound (newest ∷ older) now
fits_named bound newest older now within order none =
    let fast : Pair = greatest (fast_excess bound now) newest older in
    let slow : Pair = greatest (slow_excess bound now) newest older in
    let n = none_named (nat_lt now.1 newest.1) (nat_lt 0 (fast_excess bound now fast)) (nat_lt 0 (slow_excess bound now slow)) newest fast slow none in
    let rise = ltb-false now.1 newest.1 n.first in
    all_fit bound now (newest ∷ older) (record { time = order; reading = rise }, earlier_pairs bound now newest older order rise within.0)
    (no_excess (fast_excess bound now) newest older (ltb-false 0 (fast_excess bound now fast) n.second))
    (no_excess (slow_excess bound now) newest older (ltb-false 0 (slow_excess bound now slow) n.third))

-- where the pair fits all, no test is true
no_test : (excess : Pair → ℕ) (newest : Pair) (older : List Pair) → AllByRecursion (λ p. excess p ≤ 0) (newest ∷ older) → nat_lt 0 (excess (greatest excess newest older)) ≡ false
no_test excess newest older all =
    le-ltb 0 (excess (greatest excess newest older)) (extreme-keeps (λ p. excess p ≤ 0) (λ a b. nat_lt (excess b) (excess a)) newest older all)

pub not_fast : (bound : Bound) (now earlier : Pair) → Within bound earlier now → fast_excess bound now earlier ≤ 0
not_fast bound now earlier w = omega arith

pub not_slow : (bound : Bound) (now earlier : Pair) → Within bound earlier now → slow_excess bound now earlier ≤ 0
not_slow bound now earlier w = omega arith

none_where_fits : (bound : Bound) (newest : Pair) (older : List Pair) (now : Pair) → FitsAll bound (newest ∷ older) now → broken_with bound (newest ∷ older) now ≡ None
none_where_fits bound newest older now fits =
    let a = le-ltb now.1 newest.1 fits.0.readings in
    let b = no_test (fast_excess bound now) newest older (weaker (λ p. Within bound p now) (λ p. fast_excess bound now p ≤ 0) (newest ∷ older) (not_fast bound now) fits) in
    let c = no_test (slow_excess bound now) newest older (weaker (λ p. Within bound p now) (λ p. slow_excess bound now p ≤ 0) (newest ∷ older) (not_slow bound now) fits) in
    rw (a, b, c)

broken_pair : (bound : Bound) (newest : Pair) (older : List Pair) (now earlier : Pair) → broken_with bound (newest ∷ older) now ≡ Some earlier → Contains (newest ∷ older) earlier × ¬ Within bound earlier now
broken_pair bound newest older now earlier is =
    let fast : Pair = greatest (fast_excess bound now) newest older in
    let slow : Pair = greatest (slow_excess bound now) newest older in
    let P : Pair → Type 0 = λ p. Contains (newest ∷ older) p × ¬ Within bound p now in
    elim (some_named (nat_lt now.1 newest.1) (nat_lt 0 (fast_excess bound now fast)) (nat_lt 0 (slow_excess bound now slow)) newest fast slow earlier is) [
      | inl h ↦ subst P (sym h.1) ((0, omega arith, refl), λ w. absurd (omega (arith, ltb-true now.1 newest.1 h.0)))
      | inr (inl h) ↦ subst P (sym h.1) (greatest_is_in (fast_excess bound now) newest older, λ w. absurd (omega (arith, ltb-true 0 (fast_excess bound now fast) h.0, not_fast bound now fast w)))
      | inr (inr h) ↦ subst P (sym h.1) (greatest_is_in (slow_excess bound now) newest older, λ w. absurd (omega (arith, ltb-true 0 (slow_excess bound now slow) h.0, not_slow bound now slow w)))
    ]

pub named : NamesTheBroken
named bound newest older now within order =
    ((fits_named bound newest older now within order, none_where_fits bound newest older now), broken_pair bound newest older now)
