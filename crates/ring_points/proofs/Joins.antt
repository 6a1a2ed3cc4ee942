-- The points of two lists together.
use Rattle.std.proofs.Common.{◌≡◌, ℕ, ◌+◌, ◌^◌, ◌<◌, ◌≤◌, min, max, Bool, true, false, ◌&&◌, ◌||◌, nat_le, nat_lt, List, [], ◌∷◌, IsTrue, refl, arith}
use Rattle.std.proofs.lemmas.Bool.Decides.{nat_tests}
use Rattle.ring_points.specs.declared.interval.Interval.{Interval}
use Rattle.ring_points.specs.Ranges.{in_ranges, rises_from}
use Rattle.ring_points.specs.Sets.{join, union_of}
use Rattle.ring_points.proofs.Rising.{RisesWith, first_and_rest, rises_with, in_ranges-from, rises_from-points, rises_from-less}

-- the choice of `join` at its first interval, with its tests as arguments
abbrev joined : ℕ → ℕ → Interval → List Interval → Bool → Bool → List Interval
joined lo hi x xs before after =
    elim before [
      | true ↦ record { lo = lo; hi = hi } ∷ x ∷ xs
      | false ↦ elim after [ true ↦ x ∷ join lo hi xs | false ↦ join (min lo x.lo) (max hi x.hi) xs ]
    ]

in_ranges-joined : (p lo hi : ℕ) (x : Interval) (xs : List Interval) (before after : Bool) → nat_lt (hi + 1) x.lo ≡ before → nat_lt (x.hi + 1) lo ≡ after → lo ≤ hi → x.lo ≤ x.hi → in_ranges p (join lo hi xs) ≡ ((nat_le lo p && nat_le p hi) || in_ranges p xs) → in_ranges p (join (min lo x.lo) (max hi x.hi) xs) ≡ ((nat_le (min lo x.lo) p && nat_le p (max hi x.hi)) || in_ranges p xs) → in_ranges p (joined lo hi x xs before after) ≡ ((nat_le lo p && nat_le p hi) || in_ranges p (x ∷ xs))
in_ranges-joined p lo hi x xs true after e f h k past over = grind (arith, nat_tests)
in_ranges-joined p lo hi x xs false true e f h k past over = grind (arith, nat_tests)
in_ranges-joined p lo hi x xs false false e f h k past over = grind (arith, nat_tests)

pub in_ranges-join : (p low lo hi : ℕ) (xs : List Interval) → IsTrue (rises_from low xs) → lo ≤ hi → in_ranges p (join lo hi xs) ≡ ((nat_le lo p && nat_le p hi) || in_ranges p xs)
in_ranges-join p low lo hi [] h k = grind (arith, nat_tests)
in_ranges-join p low lo hi (x ∷ xs) h k =
    let r = first_and_rest low x xs h in
    in_ranges-joined p lo hi x xs (nat_lt (hi + 1) x.lo) (nat_lt (x.hi + 1) lo) refl refl k r.ordered
    (in_ranges-join p (x.hi + 2) lo hi xs r.rest k)
    (in_ranges-join p (x.hi + 2) (min lo x.lo) (max hi x.hi) xs r.rest (omega arith))

rises_from-joined : (lo hi : ℕ) (x : Interval) (xs : List Interval) (before after : Bool) → nat_lt (hi + 1) x.lo ≡ before → nat_lt (x.hi + 1) lo ≡ after → lo ≤ hi → hi < 2 ^ 64 → RisesWith 0 x xs → IsTrue (rises_from 0 (join lo hi xs)) → IsTrue (rises_from 0 (join (min lo x.lo) (max hi x.hi) xs)) → IsTrue (rises_from 0 (joined lo hi x xs before after))
rises_from-joined lo hi x xs true after e f h k r past over = grind (arith, nat_tests)
rises_from-joined lo hi x xs false true e f h k r past over =
    let later = rises_from-points 0 (x.hi + 2) (join lo hi xs) past
    (λ p m.
    let here = in_ranges-join p (x.hi + 2) lo hi xs r.rest h in
    let above = in_ranges-from (x.hi + 2) p xs r.rest in
    grind (arith, nat_tests)) in
    rises_with 0 x (join lo hi xs) (record { from_low = r.from_low; ordered = r.ordered; inside = r.inside; rest = later })
rises_from-joined lo hi x xs false false e f h k r past over = over

pub rises_from-join : (low lo hi : ℕ) (xs : List Interval) → IsTrue (rises_from low xs) → lo ≤ hi → hi < 2 ^ 64 → IsTrue (rises_from 0 (join lo hi xs))
rises_from-join low lo hi [] h k n = grind (arith, nat_tests)
rises_from-join low lo hi (x ∷ xs) h k n =
    let r = first_and_rest 0 x xs (rises_from-less low 0 (x ∷ xs) (omega arith) h) in
    rises_from-joined lo hi x xs (nat_lt (hi + 1) x.lo) (nat_lt (x.hi + 1) lo) refl refl k n r
    (rises_from-join (x.hi + 2) lo hi xs r.rest k n)
    (rises_from-join (x.hi + 2) (min lo x.lo) (max hi x.hi) xs r.rest (omega arith) (omega arith))

pub in_ranges-union_of : (p low more : ℕ) (is js : List Interval) → IsTrue (rises_from low is) → IsTrue (rises_from more js) → in_ranges p (union_of is js) ≡ (in_ranges p is || in_ranges p js)
in_ranges-union_of p low more is [] h k = grind (arith, nat_tests)
in_ranges-union_of p low more is (j ∷ js) h k =
    let r = first_and_rest more j js k in
    let here = in_ranges-join p low j.lo j.hi is h r.ordered in
    let rest = in_ranges-union_of p 0 (j.hi + 2) (join j.lo j.hi is) js (rises_from-join low j.lo j.hi is h r.ordered r.inside) r.rest in
    grind (arith, nat_tests)

pub rises_from-union_of : (low more : ℕ) (is js : List Interval) → IsTrue (rises_from low is) → IsTrue (rises_from more js) → IsTrue (rises_from 0 (union_of is js))
rises_from-union_of low more is [] h k = rises_from-less low 0 is (omega arith) h
rises_from-union_of low more is (j ∷ js) h k =
    let r = first_and_rest more j js k in
    rises_from-union_of 0 (j.hi + 2) (join j.lo j.hi is) js (rises_from-join low j.lo j.hi is h r.ordered r.inside) r.rest
