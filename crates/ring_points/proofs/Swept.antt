-- A sweep from stretch to stretch.
use Rattle.std.proofs.Common.{◌≡◌, ℕ, ◌+◌, ◌-◌, ◌^◌, ◌<◌, ◌≤◌, Bool, true, false, ◌&&◌, nat_lt, List, [], ◌∷◌, ◌++◌, length, Option, Some, None, Result, Ok, Err, IsTrue, refl, ap, subst, ◌∙◌, arith, length-append, append-nil, ◌⊎◌, inl, inr, IsSome, IsErr, OnOk, OnErr, MatchResult}
use Rattle.std.proofs.lemmas.Bool.{false≢true, cases_lt}
use Rattle.std.proofs.lemmas.Bool.Decides.{nat_tests}
use Rattle.ring_points.specs.declared.interval.Interval.{Interval}
use Rattle.ring_points.specs.declared.ranges.TooMany.{TooMany}
use Rattle.ring_points.specs.declared.ranges.sweep.Swept.{Swept}
use Rattle.ring_points.specs.Ranges.{in_ranges, rises_from, fits, fitting}
use Rattle.ring_points.specs.Sets.{meet_with}
use Rattle.ring_points.specs.Kept.{intervals_of, IsSwept, IsAnswer}
use Rattle.ring_points.proofs.Rising.{first_and_rest, rises_with, in_ranges-ring, rises_from-append}
use Rattle.ring_points.proofs.OneList.{one_list}
use Rattle.ring_points.proofs.Spans.{in_ranges-append}
use Rattle.ring_points.proofs.Meets.{in_ranges-meet_with, length-meet_with, rises_from-meet_with}

abbrev interval : ℕ → ℕ → Interval
interval lo hi = record { lo = lo; hi = hi }

-- a rising list goes on rising where its last interval grows
rises_from-grown : (low : ℕ) (is : List Interval) (i : Interval) (hi : ℕ) → IsTrue (rises_from low (is ++ i ∷ [])) → i.hi ≤ hi → hi < 2 ^ 64 → IsTrue (rises_from low (is ++ interval i.lo hi ∷ []))
rises_from-grown low [] i hi h k l = let r = first_and_rest low i [] h in grind (arith, nat_tests)
rises_from-grown low (j ∷ is) i hi h k l =
    let r = first_and_rest low j (is ++ i ∷ []) h in
    let rest = rises_from-grown (j.hi + 2) is i hi r.rest k l in
    rises_with low j (is ++ interval i.lo hi ∷ []) (record { from_low = r.from_low; ordered = r.ordered; inside = r.inside; rest = rest })

-- the last interval of a rising list has its two ends in order
last_ordered : (low : ℕ) (is : List Interval) (i : Interval) → IsTrue (rises_from low (is ++ i ∷ [])) → i.lo ≤ i.hi
last_ordered low [] i h = (first_and_rest low i [] h).ordered
last_ordered low (j ∷ is) i h = last_ordered (j.hi + 2) is i (first_and_rest low j (is ++ i ∷ []) h).rest

kept_begins : (keep : ℕ → Bool) (is : List Interval) (at last p : ℕ) → in_ranges p (is ++ []) ≡ (nat_lt p at && keep p) → at ≤ last → (at ≤ p → p ≤ last → keep p ≡ true) → in_ranges p (is ++ interval at last ∷ []) ≡ (nat_lt p (last + 1) && keep p)
kept_begins keep is at last p e l inside =
    let before = in_ranges-append p is [] in
    let after = in_ranges-append p is (interval at last ∷ []) in
    let cases = cases_lt p at in
    let more = cases_lt last p in
    grind (arith, nat_tests)

kept_grows : (keep : ℕ → Bool) (is : List Interval) (i : Interval) (at last p : ℕ) → in_ranges p (is ++ i ∷ []) ≡ (nat_lt p at && keep p) → i.lo ≤ i.hi → i.hi + 1 ≡ at → at ≤ last → (at ≤ p → p ≤ last → keep p ≡ true) → in_ranges p (is ++ interval i.lo last ∷ []) ≡ (nat_lt p (last + 1) && keep p)
kept_grows keep is i at last p e o m l inside =
    let before = in_ranges-append p is (i ∷ []) in
    let after = in_ranges-append p is (interval i.lo last ∷ []) in
    let cases = cases_lt p at in
    let more = cases_lt last p in
    grind (arith, nat_tests)

abbrev growing_to : Swept → ℕ → ℕ → Swept
growing_to k lo hi = record { intervals = k.intervals; growing = Some (interval lo hi) }

pub begins : (keep : ℕ → Bool) (k : Swept) (at last : ℕ) → k.growing ≡ None → IsSwept keep k at → at ≤ last → last < 2 ^ 64 → ((p : ℕ) → at ≤ p → p ≤ last → keep p ≡ true) → IsSwept keep (growing_to k at last) (last + 1)
begins keep k at last e s l n inside =
    let rising = rw e at s.rising in
    let points = rw e at s.points in
    let ends = rw e at s.ends in
    let none = append-nil k.intervals.items in
    let apart = λ (p q : ℕ) (m : IsTrue (in_ranges p k.intervals.items)) (o : IsTrue (in_ranges q (interval at last ∷ []))).
    let before = points p in let gap = ends p in let here : p + 2 ≤ q = grind (arith, nat_tests) in here in
    record {
      rising = rises_from-append 0 k.intervals.items (interval at last ∷ []) (rw none at rising) (grind (arith, nat_tests)) apart;
      points = (λ p. kept_begins keep k.intervals.items at last p (points p) l (inside p));
      ends = refl;
    }

pub grows : (keep : ℕ → Bool) (k : Swept) (i : Interval) (at last : ℕ) → k.growing ≡ Some i → IsSwept keep k at → at ≤ last → last < 2 ^ 64 → ((p : ℕ) → at ≤ p → p ≤ last → keep p ≡ true) → IsSwept keep (growing_to k i.lo last) (last + 1)
grows keep k i at last e s l n inside =
    let rising = rw e at s.rising in
    let points = rw e at s.points in
    let ends = rw e at s.ends in
    record {
      rising = rises_from-grown 0 k.intervals.items i last rising (omega arith) n;
      points = (λ p. kept_grows keep k.intervals.items i at last p (points p) (last_ordered 0 k.intervals.items i rising) ends l (inside p));
      ends = refl;
    }

-- 33 intervals of the kept points below `at` are too many
pub too_many : (keep : ℕ → Bool) (is : List Interval) (i : Interval) (at : ℕ) (e : TooMany) → IsTrue (rises_from 0 (is ++ i ∷ [])) → ((p : ℕ) → in_ranges p (is ++ i ∷ []) ≡ (nat_lt p at && keep p)) → 0 < at → length is ≡ 32 → IsAnswer keep (Err e)
too_many keep is i at e h points o l = λ full k same.
    let below = interval 0 (at - 1) in
    let one = one_list 0 0 (is ++ i ∷ []) (meet_with below full) h (rises_from-meet_with 0 below full k)
    (λ p. let a = points p in let b = same p in let c = in_ranges-meet_with p below full in grind (arith, nat_tests)) in
    let long : 32 < length full = omega (arith, length-meet_with below full, ap length one, length-append is (i ∷ [])) in
    let over : fits full ≡ false = grind (arith, nat_tests) in
    rw over refl

pub whole : (keep : ℕ → Bool) (is : List Interval) → IsTrue (rises_from 0 is) → ((p : ℕ) → in_ranges p is ≡ (nat_lt p (2 ^ 64) && keep p)) → length is ≤ 32 → IsAnswer keep (Ok is)
whole keep is h points l = λ full k same.
    let one : is ≡ full = one_list 0 0 is full h k
    (λ p. let a = points p in let b = same p in let c = in_ranges-ring 0 p full k in grind (arith, nat_tests)) in
    let room : fits is ≡ true = grind (arith, nat_tests) in
    subst (λ (xs : List Interval). ◌≡◌ {A = Result (List Interval) TooMany} (Ok is) (fitting xs)) one (rw room refl)

pub goes_on : (keep : ℕ → Bool) (k : Swept) (at last lo : ℕ) → (k.growing ≡ None) × (lo ≡ at) ⊎ (i : Interval) × (k.growing ≡ Some i) × (lo ≡ i.lo) → IsSwept keep k at → at ≤ last → last < 2 ^ 64 → ((p : ℕ) → at ≤ p → p ≤ last → keep p ≡ true) → IsSwept keep (growing_to k lo last) (last + 1)
goes_on keep k at last lo (inl e) s l n inside = rw e.1 (begins keep k at last e.0 s l n inside)
goes_on keep k at last lo (inr e) s l n inside = rw e.2 (grows keep k e.0 at last e.1 s l n inside)

-- the point at which a growing interval ends is not the first
grown_past : (i : Interval) (at : ℕ) → i.hi + 1 ≡ at → 0 < at
grown_past i at e = omega arith

pub refused : (keep : ℕ → Bool) (k : Swept) (at : ℕ) (e : TooMany) → IsSwept keep k at → length k.intervals.items ≡ 32 → IsSome k.growing → IsAnswer keep (Err e)
refused keep k at e s l some = at_growing k.growing refl
  where
    at_growing : (o : Option Interval) → k.growing ≡ o → IsAnswer keep (Err e)
    at_growing None f = absurd (false≢true (rw f at some))
    at_growing (Some i) f = too_many keep k.intervals.items i at e (rw f at s.rising) (rw f at s.points) (grown_past i at (rw f at s.ends)) l

pub answer_by_error : (keep : ℕ → Bool) (r : Result (List Interval) TooMany) → IsErr r → ((e : TooMany) → IsAnswer keep (Err e)) → IsAnswer keep r
answer_by_error keep (Ok is) h k = absurd (false≢true h)
answer_by_error keep (Err e) h k = k e

same_intervals : (k closed : Swept) → closed.intervals.items ≡ intervals_of k → closed.growing ≡ None → intervals_of closed ≡ intervals_of k
same_intervals k closed e f = rw f (append-nil closed.intervals.items ∙ e)

kept_below : (keep : ℕ → Bool) (is : List Interval) (at last p : ℕ) → in_ranges p is ≡ (nat_lt p at && keep p) → at ≤ last → (at ≤ p → p ≤ last → keep p ≡ false) → in_ranges p is ≡ (nat_lt p (last + 1) && keep p)
kept_below keep is at last p e l outside =
    let cases = cases_lt p at in
    let more = cases_lt last p in
    grind (arith, nat_tests)

-- nothing was kept from `at` to `last`, and nothing grows
pub passed_over : (keep : ℕ → Bool) (k closed : Swept) (at last : ℕ) → closed.intervals.items ≡ intervals_of k → closed.growing ≡ None → IsSwept keep k at → at ≤ last → ((p : ℕ) → at ≤ p → p ≤ last → keep p ≡ false) → IsSwept keep closed (last + 1)
passed_over keep k closed at last e f s l outside =
    let same = same_intervals k closed e f in
    record {
      rising = rw same s.rising;
      points = (λ p. rw same (kept_below keep (intervals_of k) at last p (s.points p) l (outside p)));
      ends = rw f (λ p g. outside p (omega arith) (omega arith));
    }

pub closes : (keep : ℕ → Bool) (k closed : Swept) (at last : ℕ) (r : Result Unit TooMany) → OnOk r (closed.intervals.items ≡ intervals_of k) → OnOk r (closed.growing ≡ None) → OnErr r (length k.intervals.items ≡ 32) → OnErr r (IsSome k.growing) → IsSwept keep k at → at ≤ last → ((p : ℕ) → at ≤ p → p ≤ last → keep p ≡ false) → MatchResult r (λ _. IsSwept keep closed (last + 1)) (λ e. IsAnswer keep (Err e))
closes keep k closed at last (Ok u) e f l some s m outside = passed_over keep k closed at last e f s m outside
closes keep k closed at last (Err x) e f l some s m outside = refused keep k at x s l some

pub finished : (keep : ℕ → Bool) (k closed : Swept) → closed.intervals.items ≡ intervals_of k → length closed.intervals.items ≤ 32 → IsSwept keep k (2 ^ 64) → IsAnswer keep (Ok closed.intervals.items)
finished keep k closed e l s = whole keep closed.intervals.items (rw e s.rising) (λ p. rw e (s.points p)) l
