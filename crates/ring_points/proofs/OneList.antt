-- Two rising lists with the same points are one list.
use Rattle.std.proofs.Common.{◌≡◌, ℕ, ◌+◌, ◌≤◌, false, List, [], ◌∷◌, IsTrue, refl, ap, arith, sym, ◌∙◌}
use Rattle.std.proofs.lemmas.Bool.{cases_lt}
use Rattle.std.proofs.lemmas.Bool.Decides.{nat_tests}
use Rattle.ring_points.specs.declared.interval.Interval.{Interval}
use Rattle.ring_points.specs.Ranges.{in_ranges, rises_from}
use Rattle.ring_points.proofs.Rising.{RisesWith, first_and_rest, in_ranges-below}

-- neither begins before the other
begins_no_later : (low more : ℕ) (i j : Interval) (is js : List Interval) → IsTrue (rises_from low (i ∷ is)) → IsTrue (rises_from more (j ∷ js)) → ((p : ℕ) → in_ranges p (i ∷ is) ≡ in_ranges p (j ∷ js)) → j.lo ≤ i.lo
begins_no_later low more i j is js h k same =
    let r = first_and_rest low i is h in
    let s = first_and_rest more j js k in
    let at_lo : IsTrue (in_ranges i.lo (i ∷ is)) = grind (arith, nat_tests) in
    let here : IsTrue (in_ranges i.lo (j ∷ js)) = sym (same i.lo) ∙ at_lo in
    let before = in_ranges-below (j.hi + 2) i.lo js s.rest in
    grind (arith, nat_tests)

-- nor does the first interval of one end before that of the other
ends_no_later : (low more : ℕ) (i j : Interval) (is js : List Interval) → IsTrue (rises_from low (i ∷ is)) → IsTrue (rises_from more (j ∷ js)) → ((p : ℕ) → in_ranges p (i ∷ is) ≡ in_ranges p (j ∷ js)) → i.lo ≤ j.lo → i.hi ≤ j.hi
ends_no_later low more i j is js h k same l =
    let r = first_and_rest low i is h in
    let s = first_and_rest more j js k in
    let there = same (j.hi + 1) in
    let before = in_ranges-below (j.hi + 2) (j.hi + 1) js s.rest (omega arith) in
    grind (arith, nat_tests)

same_rest : (low more : ℕ) (i j : Interval) (is js : List Interval) → RisesWith low i is → RisesWith more j js → i.hi ≡ j.hi → i.lo ≡ j.lo → ((p : ℕ) → in_ranges p (i ∷ is) ≡ in_ranges p (j ∷ js)) → (p : ℕ) → in_ranges p is ≡ in_ranges p js
same_rest low more i j is js r s e f same p =
    let here = same p in
    let before = in_ranges-below (i.hi + 2) p is r.rest in
    let before_too = in_ranges-below (j.hi + 2) p js s.rest in
    let cases = cases_lt p (i.hi + 2) in
    grind (arith, nat_tests)

abbrev interval : ℕ → ℕ → Interval
interval lo hi = record { lo = lo; hi = hi }

same_interval : (i j : Interval) → i.lo ≡ j.lo → i.hi ≡ j.hi → i ≡ j
same_interval i j e f = ap (λ lo. interval lo i.hi) e ∙ ap (λ hi. interval j.lo hi) f

no_points : (low : ℕ) (i : Interval) (is : List Interval) → IsTrue (rises_from low (i ∷ is)) → ((p : ℕ) → in_ranges p (i ∷ is) ≡ false) → ⊥
no_points low i is h none =
    let r = first_and_rest low i is h in
    let at_lo = none i.lo in
    grind (arith, nat_tests)

pub one_list : (low more : ℕ) (is js : List Interval) → IsTrue (rises_from low is) → IsTrue (rises_from more js) → ((p : ℕ) → in_ranges p is ≡ in_ranges p js) → is ≡ js
one_list low more [] [] h k same = refl
one_list low more [] (j ∷ js) h k same = absurd (no_points more j js k (λ p. sym (same p)))
one_list low more (i ∷ is) [] h k same = absurd (no_points low i is h same)
one_list low more (i ∷ is) (j ∷ js) h k same =
    let begin : i.lo ≡ j.lo = omega (arith, begins_no_later low more i j is js h k same, begins_no_later more low j i js is k h (λ p. sym (same p))) in
    let end : i.hi ≡ j.hi = omega (arith, ends_no_later low more i j is js h k same (omega arith), ends_no_later more low j i js is k h (λ p. sym (same p)) (omega arith)) in
    let r = first_and_rest low i is h in
    let s = first_and_rest more j js k in
    let rest = one_list (i.hi + 2) (j.hi + 2) is js r.rest s.rest (same_rest low more i j is js r s end begin same) in
    let first = same_interval i j begin end in
    cc
