-- The lists that the sweeps answer.
use Rattle.std.proofs.Common.{◌≡◌, ℕ, not, ◌&&◌, ◌||◌, List, [], Result, IsTrue, arith}
use Rattle.std.proofs.lemmas.Bool.{and_parts}
use Rattle.std.proofs.lemmas.Bool.Decides.{nat_tests}
use Rattle.ring_points.specs.declared.interval.Interval.{Interval}
use Rattle.ring_points.specs.declared.ranges.TooMany.{TooMany}
use Rattle.ring_points.specs.declared.ranges.sweep.Rule.TheVariants.{Either, Both}
use Rattle.ring_points.specs.Ranges.{in_ranges, rises_from, is_proper, fitting}
use Rattle.ring_points.specs.Sets.{union_of, minus_of, meet_of}
use Rattle.ring_points.specs.Sweeps.{is_kept}
use Rattle.ring_points.specs.Kept.{IsAnswer}
use Rattle.ring_points.proofs.Meets.{in_ranges-meet_of, rises_from-meet_of}
use Rattle.ring_points.proofs.Joins.{in_ranges-union_of, rises_from-union_of}
use Rattle.ring_points.proofs.Cuts.{in_ranges-minus_of, rises_from-minus_of}

pub proper_rises : (is : List Interval) → IsTrue (is_proper is) → IsTrue (rises_from 0 is)
proper_rises is h = (and_parts _ _ h).1

pub in_ranges-union_without : (p : ℕ) (is js ks : List Interval) → IsTrue (is_proper is) → IsTrue (is_proper js) → IsTrue (is_proper ks) → in_ranges p (minus_of (union_of is js) ks) ≡ ((in_ranges p is || in_ranges p js) && not (in_ranges p ks))
in_ranges-union_without p is js ks h k l =
    let either = in_ranges-union_of p 0 0 is js (proper_rises is h) (proper_rises js k) in
    let rising = rises_from-union_of 0 0 is js (proper_rises is h) (proper_rises js k) in
    let left = in_ranges-minus_of p 0 0 (union_of is js) ks rising (proper_rises ks l) in
    grind (arith, nat_tests)

pub union_without_answer : (is js ks : List Interval) (r : Result (List Interval) TooMany) → IsTrue (is_proper is) → IsTrue (is_proper js) → IsTrue (is_proper ks) → IsAnswer (is_kept Either is js ks) r → r ≡ fitting (minus_of (union_of is js) ks)
union_without_answer is js ks r h k l answer =
    answer (minus_of (union_of is js) ks)
    (rises_from-minus_of 0 0 (union_of is js) ks (rises_from-union_of 0 0 is js (proper_rises is h) (proper_rises js k)) (proper_rises ks l))
    (λ p. in_ranges-union_without p is js ks h k l)

pub meet_answer : (is js : List Interval) (r : Result (List Interval) TooMany) → IsTrue (is_proper is) → IsTrue (is_proper js) → IsAnswer (is_kept Both is js []) r → r ≡ fitting (meet_of is js)
meet_answer is js r h k answer =
    answer (meet_of is js)
    (rises_from-meet_of 0 0 is js (proper_rises is h) (proper_rises js k))
    (λ p. let e = in_ranges-meet_of p is js in grind (arith, nat_tests))
