-- What a Drift keeps answers for all pairs that it stands for.
use Rattle.std.proofs.Common.{◌≡◌, ◌↔◌, sym, ◌∙◌, ℕ, ◌≤◌, Bool, true, false, List, [], ◌∷◌, Option, Some, None, refl, arith, nat_lt, subst, ap, le-ltb, ltb-true, ltb-false, if◌then◌else◌}
use Rattle.std.specs.List.{AllByRecursion}
use Rattle.drift_clock.specs.declared.bound.Bound.{Bound}
use Rattle.drift_clock.specs.Within.{Pair, FitsAll}
use Rattle.drift_clock.specs.Extremes.{Extremes, Stands, extreme, is_further_behind, is_further_ahead}
use Rattle.drift_clock.specs.Refusals.{greatest, fast_excess, slow_excess, broken_with, broken_with_kept}
use Rattle.drift_clock.proofs.Greatest.{IsGreatest, extreme_is_greatest}
use Rattle.drift_clock.proofs.Excesses.{NoLater, earlier_pairs, fast_orders, slow_orders}
use Rattle.drift_clock.proofs.Named.{named}

-- the kept extreme e is named where the greatest of all is
pick_by : (excess : Pair → ℕ) (newest : Pair) (older : List Pair) (e : Pair) (rest : Option Pair) → IsGreatest excess newest older e → (b : Bool) → nat_lt 0 (excess e) ≡ b → (if nat_lt 0 (excess e) then Some e else rest) ≡ (if nat_lt 0 (excess (greatest excess newest older)) then Some (greatest excess newest older) else rest)
pick_by excess newest older e rest g true is = rw (g.same (ltb-true 0 (excess e) is)) refl
pick_by excess newest older e rest g false is =
    let none : excess (greatest excess newest older) ≤ 0 = omega (arith, ltb-false 0 (excess e) is, g.most) in
    rw (is, le-ltb 0 (excess (greatest excess newest older)) none) refl

pick : (excess : Pair → ℕ) (newest : Pair) (older : List Pair) (e : Pair) (rest : Option Pair) → IsGreatest excess newest older e → (if nat_lt 0 (excess e) then Some e else rest) ≡ (if nat_lt 0 (excess (greatest excess newest older)) then Some (greatest excess newest older) else rest)
pick excess newest older e rest g = pick_by excess newest older e rest g (nat_lt 0 (excess e)) refl

abbrev kept_from : Bound → Pair → List Pair → Extremes
kept_from bound newest older =
    record { bound = bound; latest = newest; behind = extreme (is_further_behind bound) newest older; ahead = extreme (is_further_ahead bound) newest older }

answer_by : (bound : Bound) (newest : Pair) (older : List Pair) (now : Pair) → FitsAll bound older newest → newest.0 ≤ now.0 → (b : Bool) → nat_lt now.1 newest.1 ≡ b → broken_with_kept (kept_from bound newest older) now ≡ broken_with bound (newest ∷ older) now
answer_by bound newest older now fits order true is = rw is refl
answer_by bound newest older now fits order false is =
    let rise = ltb-false now.1 newest.1 is in
    let no_later : AllByRecursion (NoLater now) (newest ∷ older) = (record { time = order; reading = rise }, earlier_pairs bound now newest older order rise fits) in
    let behind = extreme_is_greatest (NoLater now) (is_further_behind bound) (fast_excess bound now) (fast_orders bound now) newest older no_later in
    let ahead = extreme_is_greatest (NoLater now) (is_further_ahead bound) (slow_excess bound now) (slow_orders bound now) newest older no_later in
    let slowest = pick (slow_excess bound now) newest older (extreme (is_further_ahead bound) newest older) None ahead in
    rw (is, slowest) (pick (fast_excess bound now) newest older (extreme (is_further_behind bound) newest older) _ behind)

same_kept : (k drift : Extremes) → Some k ≡ Some drift → k ≡ drift
same_kept k drift e = cc

pub latest_is : (drift : Extremes) (newest : Pair) (older : List Pair) → Stands drift (newest ∷ older) → drift.latest ≡ newest
latest_is drift newest older s =
    sym (ap (λ (k : Extremes). k.latest) (same_kept (kept_from drift.bound newest older) drift s.kept))

pub broken_by_kept : (drift : Extremes) (pairs : List Pair) (now : Pair) → Stands drift pairs → drift.latest.0 ≤ now.0 → broken_with_kept drift now ≡ broken_with drift.bound pairs now
broken_by_kept drift [] now s order = absurd (cc)
broken_by_kept drift (newest ∷ older) now s order =
    let k : Extremes = kept_from drift.bound newest older in
    let e : k ≡ drift = same_kept k drift s.kept in
    let P : Extremes → Type 0 = λ d. broken_with_kept d now ≡ broken_with drift.bound (newest ∷ older) now in
    subst P e (answer_by drift.bound newest older now s.within.0 (omega (arith, ap (λ (p : Pair). p.0) (latest_is drift newest older s))) (nat_lt now.1 newest.1) refl)

-- the kept pairs refuse nothing exactly where the new one fits all
pub none_by_kept : (drift : Extremes) (pairs : List Pair) (now : Pair) → Stands drift pairs → drift.latest.0 ≤ now.0 → (broken_with_kept drift now ≡ None) ↔ FitsAll drift.bound pairs now
none_by_kept drift [] now s order = absurd (cc)
none_by_kept drift (newest ∷ older) now s order =
    let same = broken_by_kept drift (newest ∷ older) now s order in
    let exactly = (named drift.bound newest older now s.within (omega (arith, ap (λ (p : Pair). p.0) (latest_is drift newest older s)))).0 in
    (λ e. exactly.0 (sym same ∙ e), λ fits. same ∙ exactly.1 fits)
