-- The points of a list that another has not.
use Rattle.std.proofs.Common.{◌≡◌, ℕ, ◌+◌, ◌-◌, ◌^◌, ◌<◌, ◌≤◌, Bool, true, false, not, ◌&&◌, nat_le, nat_lt, cond, List, [], ◌∷◌, IsTrue, refl, sym, ◌∙◌, arith}
use Rattle.std.proofs.lemmas.Bool.{and_parts}
use Rattle.std.proofs.lemmas.Bool.Decides.{nat_tests}
use Rattle.ring_points.specs.declared.interval.Interval.{Interval}
use Rattle.ring_points.specs.Ranges.{in_interval, in_ranges, rises_from}
use Rattle.ring_points.specs.Sets.{span, cut_at, cut_all, minus_of}
use Rattle.ring_points.proofs.Rising.{first_and_rest, in_ranges-from, rises_from-append, rises_from-less}
use Rattle.ring_points.proofs.Spans.{in_ranges-append, in_ranges-span, rises_from-span}

-- what stands before j in i
before : Interval → Interval → List Interval
before i j = cond (nat_lt i.lo j.lo) (span i.lo (j.lo - 1)) []

in_ranges-before : (p : ℕ) (i j : Interval) → in_ranges p (before i j) ≡ (nat_le i.lo p && nat_lt p j.lo)
unfolding before
in_ranges-before p i j = grind (arith, nat_tests)

rises_from-before : (i j : Interval) → j.lo < 2 ^ 64 → IsTrue (rises_from 0 (before i j))
unfolding before
rises_from-before i j h = grind (arith, nat_tests)

abbrev overlap : Interval → Interval → Bool
overlap i j = nat_le i.lo j.hi && nat_le j.lo i.hi

in_ranges-cut_at : (p : ℕ) (i j : Interval) (b : Bool) → overlap i j ≡ b → i.lo ≤ i.hi → j.lo ≤ j.hi → in_ranges p (cut_at i j b) ≡ (in_interval p i && not (in_interval p j))
unfolding before
in_ranges-cut_at p i j false e h k = grind (arith, nat_tests)
in_ranges-cut_at p i j true e h k =
    let both = in_ranges-append p (before i j) (span (j.hi + 1) i.hi) in
    let start = in_ranges-before p i j in
    let end = in_ranges-span p (j.hi + 1) i.hi in
    grind (arith, nat_tests)

rises_from-cut_at : (i j : Interval) (b : Bool) → i.lo ≤ i.hi → i.hi < 2 ^ 64 → j.lo ≤ j.hi → j.hi < 2 ^ 64 → IsTrue (rises_from 0 (cut_at i j b))
unfolding before
rises_from-cut_at i j false h m k n = grind (arith, nat_tests)
rises_from-cut_at i j true h m k n =
    rises_from-append 0 (before i j) (span (j.hi + 1) i.hi) (rises_from-before i j (omega arith)) (rises_from-span (j.hi + 1) i.hi m)
    (λ p q l o.
    let start = in_ranges-before p i j in
    let end = in_ranges-span q (j.hi + 1) i.hi in
    grind (arith, nat_tests))

pub in_ranges-cut_all : (p low : ℕ) (is : List Interval) (j : Interval) → IsTrue (rises_from low is) → j.lo ≤ j.hi → in_ranges p (cut_all is j) ≡ (in_ranges p is && not (in_interval p j))
in_ranges-cut_all p low [] j h k = refl
in_ranges-cut_all p low (i ∷ is) j h k =
    let r = first_and_rest low i is h in
    let both = in_ranges-append p (cut_at i j (overlap i j)) (cut_all is j) in
    let here = in_ranges-cut_at p i j (overlap i j) refl r.ordered k in
    let rest = in_ranges-cut_all p (i.hi + 2) is j r.rest k in
    grind (arith, nat_tests)

pub rises_from-cut_all : (low : ℕ) (is : List Interval) (j : Interval) → IsTrue (rises_from low is) → j.lo ≤ j.hi → j.hi < 2 ^ 64 → IsTrue (rises_from 0 (cut_all is j))
rises_from-cut_all low [] j h k n = refl
rises_from-cut_all low (i ∷ is) j h k n =
    let r = first_and_rest low i is h in
    let here = rises_from-cut_at i j (overlap i j) r.ordered r.inside k n in
    let rest = rises_from-cut_all (i.hi + 2) is j r.rest k n in
    rises_from-append 0 (cut_at i j (overlap i j)) (cut_all is j) here rest
    (λ p q l m.
    let within : IsTrue (in_interval p i) = (and_parts _ _ (sym (in_ranges-cut_at p i j (overlap i j) refl r.ordered k) ∙ l)).0 in
    let after = in_ranges-from (i.hi + 2) q is r.rest (and_parts _ _ (sym (in_ranges-cut_all q (i.hi + 2) is j r.rest k) ∙ m)).0 in
    grind (arith, nat_tests))

pub in_ranges-minus_of : (p low more : ℕ) (is js : List Interval) → IsTrue (rises_from low is) → IsTrue (rises_from more js) → in_ranges p (minus_of is js) ≡ (in_ranges p is && not (in_ranges p js))
in_ranges-minus_of p low more is [] h k = grind (arith, nat_tests)
in_ranges-minus_of p low more is (j ∷ js) h k =
    let r = first_and_rest more j js k in
    let here = in_ranges-cut_all p low is j h r.ordered in
    let cut = rises_from-cut_all low is j h r.ordered r.inside in
    let rest = in_ranges-minus_of p 0 (j.hi + 2) (cut_all is j) js cut r.rest in
    grind (arith, nat_tests)

pub rises_from-minus_of : (low more : ℕ) (is js : List Interval) → IsTrue (rises_from low is) → IsTrue (rises_from more js) → IsTrue (rises_from 0 (minus_of is js))
rises_from-minus_of low more is [] h k = rises_from-less low 0 is (omega arith) h
rises_from-minus_of low more is (j ∷ js) h k =
    let r = first_and_rest more j js k in
    rises_from-minus_of 0 (j.hi + 2) (cut_all is j) js (rises_from-cut_all low is j h r.ordered r.inside) r.rest
