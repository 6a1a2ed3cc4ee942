-- Rising lists, and where their points are.
use Rattle.std.proofs.Common.{◌≡◌, ℕ, ◌+◌, ◌^◌, ◌<◌, ◌≤◌, false, List, [], ◌∷◌, ◌++◌, IsTrue, refl, arith}
use Rattle.std.proofs.lemmas.Bool.{and_parts, false≢true, or_right}
use Rattle.std.proofs.lemmas.Bool.Decides.{nat_tests}
use Rattle.ring_points.specs.declared.interval.Interval.{Interval}
use Rattle.ring_points.specs.Ranges.{in_ranges, rises_from}

-- what a rising list says of its first interval and of the rest
pub record RisesWith (low : ℕ) (i : Interval) (is : List Interval) : Type 0 where
  pub from_low : low ≤ i.lo
  pub ordered : i.lo ≤ i.hi
  pub inside : i.hi < 2 ^ 64
  pub rest : IsTrue (rises_from (i.hi + 2) is)

pub first_and_rest : (low : ℕ) (i : Interval) (is : List Interval) → IsTrue (rises_from low (i ∷ is)) → RisesWith low i is
first_and_rest low i is h = grind (arith, nat_tests, and_parts)

pub rises_with : (low : ℕ) (i : Interval) (is : List Interval) → RisesWith low i is → IsTrue (rises_from low (i ∷ is))
rises_with low i is h = grind (arith, nat_tests)

-- no point is below the start
pub in_ranges-below : (low p : ℕ) (is : List Interval) → IsTrue (rises_from low is) → p < low → in_ranges p is ≡ false
in_ranges-below low p [] h k = refl
in_ranges-below low p (i ∷ is) h k =
    let r = first_and_rest low i is h in
    let e : in_ranges p is ≡ false = in_ranges-below (i.hi + 2) p is r.rest (omega arith) in
    grind (arith, nat_tests)

pub in_ranges-from : (low p : ℕ) (is : List Interval) → IsTrue (rises_from low is) → IsTrue (in_ranges p is) → low ≤ p
in_ranges-from low p is h k = grind (arith, in_ranges-below low p is h)

-- every point is a point of the ring
pub in_ranges-ring : (low p : ℕ) (is : List Interval) → IsTrue (rises_from low is) → IsTrue (in_ranges p is) → p < 2 ^ 64
in_ranges-ring low p [] h k = absurd (false≢true k)
in_ranges-ring low p (i ∷ is) h k =
    let r = first_and_rest low i is h in
    let again : IsTrue (in_ranges p is) → p < 2 ^ 64 = in_ranges-ring (i.hi + 2) p is r.rest in
    grind (arith, nat_tests)

-- it rises from any number that no point is below
pub rises_from-points : (low above : ℕ) (is : List Interval) → IsTrue (rises_from low is) → ((p : ℕ) → IsTrue (in_ranges p is) → above ≤ p) → IsTrue (rises_from above is)
rises_from-points low above [] h k = refl
rises_from-points low above (i ∷ is) h k =
    let r = first_and_rest low i is h in
    let at_lo : IsTrue (in_ranges i.lo (i ∷ is)) = grind (arith, nat_tests) in
    rises_with above i is (record { from_low = k i.lo at_lo; ordered = r.ordered; inside = r.inside; rest = r.rest })

pub rises_from-less : (low less : ℕ) (is : List Interval) → less ≤ low → IsTrue (rises_from low is) → IsTrue (rises_from less is)
rises_from-less low less is l h = rises_from-points low less is h (λ p k. let f = in_ranges-from low p is h k in omega arith)

-- two rising lists one after the other rise, where a point is missing between them
pub rises_from-append : (low : ℕ) (is js : List Interval) → IsTrue (rises_from low is) → IsTrue (rises_from low js) → ((p q : ℕ) → IsTrue (in_ranges p is) → IsTrue (in_ranges q js) → p + 2 ≤ q) → IsTrue (rises_from low (is ++ js))
rises_from-append low [] js h k apart = k
rises_from-append low (i ∷ is) js h k apart =
    let r = first_and_rest low i is h in
    let at_hi : IsTrue (in_ranges i.hi (i ∷ is)) = grind (arith, nat_tests) in
    let later = rises_from-points low (i.hi + 2) js k (λ q m. apart i.hi q at_hi m) in
    let more = rises_from-append (i.hi + 2) is js r.rest later (λ p q l m. apart p q (or_right _ _ l) m) in
    rises_with low i (is ++ js) (record { from_low = r.from_low; ordered = r.ordered; inside = r.inside; rest = more })
