-- What an answer that fits, or not, says.
use Rattle.std.proofs.Common.{◌≡◌, ℕ, Bool, true, false, not, cond, List, Result, Ok, Err, refl, subst, sym, IfOk, is_err}
use Rattle.ring_points.specs.declared.interval.Interval.{Interval}
use Rattle.ring_points.specs.declared.ranges.TooMany.{TooMany}
use Rattle.ring_points.specs.Ranges.{in_ranges, fits, fitting}

abbrev chosen : Bool → List Interval → Result (List Interval) TooMany
chosen b is = cond b (Ok is) (Err (record {}))

pub ok_from_fitting : (r : Result (List Interval) TooMany) (full : List Interval) → r ≡ fitting full → IfOk r (λ is. is ≡ full)
ok_from_fitting r full e = subst (λ (x : Result (List Interval) TooMany). IfOk x (λ is. is ≡ full)) (sym e) (at_choice (fits full))
  where
    at_choice : (b : Bool) → IfOk (chosen b full) (λ is. is ≡ full)
    at_choice true = refl
    at_choice false = tt

pub points_from_fitting : (r : Result (List Interval) TooMany) (full : List Interval) (has : ℕ → Bool) → r ≡ fitting full → ((p : ℕ) → in_ranges p full ≡ has p) → IfOk r (λ is. (p : ℕ) → in_ranges p is ≡ has p)
points_from_fitting r full has e points = subst (λ (x : Result (List Interval) TooMany). IfOk x (λ is. (p : ℕ) → in_ranges p is ≡ has p)) (sym e) (at_choice (fits full))
  where
    at_choice : (b : Bool) → IfOk (chosen b full) (λ is. (p : ℕ) → in_ranges p is ≡ has p)
    at_choice true = points
    at_choice false = tt

pub is_err_from_fitting : (r : Result (List Interval) TooMany) (full : List Interval) → r ≡ fitting full → is_err r ≡ not (fits full)
is_err_from_fitting r full e = subst (λ (x : Result (List Interval) TooMany). is_err x ≡ not (fits full)) (sym e) (at_choice (fits full))
  where
    at_choice : (b : Bool) → is_err (chosen b full) ≡ not b
    at_choice true = refl
    at_choice false = refl
