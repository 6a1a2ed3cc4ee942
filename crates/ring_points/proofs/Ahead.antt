-- What lies ahead of a sweep.
use Rattle.std.proofs.Common.{◌≡◌, ℕ, ◌<◌, false, List, [], ◌∷◌, get_or, IsTrue, refl, arith}
use Rattle.std.proofs.Math.Nat.{le_refl}
use Rattle.std.proofs.lemmas.Bool.{and_parts}
use Rattle.std.proofs.lemmas.Bool.Decides.{nat_tests}
use Rattle.ring_points.specs.declared.interval.Interval.{Interval}
use Rattle.ring_points.specs.Ranges.{in_ranges, rises_from}
use Rattle.ring_points.specs.Sweeps.{is_ahead}
use Rattle.ring_points.proofs.Rising.{first_and_rest, rises_with, in_ranges-below}

pub before_first : (at p : ℕ) (is : List Interval) (d : Interval) → IsTrue (is_ahead at is) → p < (get_or is 0 d).lo → in_ranges p is ≡ false
before_first at p [] d h k = refl
before_first at p (i ∷ is) d h k =
    let r = first_and_rest 0 i is (and_parts _ _ h).1 in
    in_ranges-below i.lo p (i ∷ is) (rises_with i.lo i is (record { from_low = le_refl i.lo; ordered = r.ordered; inside = r.inside; rest = r.rest })) k

pub ahead_first : (is : List Interval) → IsTrue (rises_from 0 is) → IsTrue (is_ahead 0 is)
ahead_first [] h = refl
ahead_first (i ∷ is) h = grind (arith, nat_tests)
