-- The points that two lists share.
use Rattle.std.proofs.Common.{◌≡◌, ℕ, ◌+◌, ◌≤◌, min, max, ◌&&◌, List, [], ◌∷◌, length, IsTrue, refl, sym, ◌∙◌, arith, length-append}
use Rattle.std.proofs.lemmas.Bool.{and_parts}
use Rattle.std.proofs.lemmas.Bool.Decides.{nat_tests}
use Rattle.ring_points.specs.declared.interval.Interval.{Interval}
use Rattle.ring_points.specs.Ranges.{in_interval, in_ranges, rises_from}
use Rattle.ring_points.specs.Sets.{span, meet_with, meet_of}
use Rattle.ring_points.proofs.Rising.{first_and_rest, in_ranges-from, rises_from-append}
use Rattle.ring_points.proofs.Spans.{in_ranges-append, in_ranges-span, rises_from-span, length-span}

pub in_ranges-meet_with : (p : ℕ) (i : Interval) (js : List Interval) → in_ranges p (meet_with i js) ≡ (in_interval p i && in_ranges p js)
in_ranges-meet_with p i [] = grind (arith, nat_tests)
in_ranges-meet_with p i (j ∷ js) =
    let both = in_ranges-append p (span (max i.lo j.lo) (min i.hi j.hi)) (meet_with i js) in
    let here = in_ranges-span p (max i.lo j.lo) (min i.hi j.hi) in
    let rest = in_ranges-meet_with p i js in
    grind (arith, nat_tests)

pub in_ranges-meet_of : (p : ℕ) (is js : List Interval) → in_ranges p (meet_of is js) ≡ (in_ranges p is && in_ranges p js)
in_ranges-meet_of p [] js = refl
in_ranges-meet_of p (i ∷ is) js =
    let both = in_ranges-append p (meet_with i js) (meet_of is js) in
    let here = in_ranges-meet_with p i js in
    let rest = in_ranges-meet_of p is js in
    grind (arith, nat_tests)

pub length-meet_with : (i : Interval) (js : List Interval) → length (meet_with i js) ≤ length js
length-meet_with i [] = omega arith
length-meet_with i (j ∷ js) =
    let one = length-span (max i.lo j.lo) (min i.hi j.hi) in
    let rest = length-meet_with i js in
    rw length-append (omega arith)

pub rises_from-meet_with : (low : ℕ) (i : Interval) (js : List Interval) → IsTrue (rises_from low js) → IsTrue (rises_from 0 (meet_with i js))
rises_from-meet_with low i [] h = refl
rises_from-meet_with low i (j ∷ js) h =
    let r = first_and_rest low j js h in
    let here = rises_from-span (max i.lo j.lo) (min i.hi j.hi) (omega arith) in
    let rest = rises_from-meet_with (j.hi + 2) i js r.rest in
    rises_from-append 0 (span (max i.lo j.lo) (min i.hi j.hi)) (meet_with i js) here rest
    (λ p q l m.
    let within = in_ranges-span p (max i.lo j.lo) (min i.hi j.hi) in
    let after : j.hi + 2 ≤ q = in_ranges-from (j.hi + 2) q js r.rest (and_parts (in_interval q i) (in_ranges q js) (sym (in_ranges-meet_with q i js) ∙ m)).1 in
    grind (arith, nat_tests))

pub rises_from-meet_of : (low more : ℕ) (is js : List Interval) → IsTrue (rises_from low is) → IsTrue (rises_from more js) → IsTrue (rises_from 0 (meet_of is js))
rises_from-meet_of low more [] js h k = refl
rises_from-meet_of low more (i ∷ is) js h k =
    let r = first_and_rest low i is h in
    let here = rises_from-meet_with more i js k in
    let rest = rises_from-meet_of (i.hi + 2) more is js r.rest k in
    rises_from-append 0 (meet_with i js) (meet_of is js) here rest
    (λ p q l m.
    let within : IsTrue (in_interval p i) = (and_parts _ _ (sym (in_ranges-meet_with p i js) ∙ l)).0 in
    let after = in_ranges-from (i.hi + 2) q is r.rest (and_parts _ _ (sym (in_ranges-meet_of q is js) ∙ m)).0 in
    grind (arith, nat_tests))
