-- Segments that rise, and the places of points in them.
use Rattle.std.proofs.Common.{◌≡◌, ℕ, ◌+◌, ◌^◌, ◌<◌, ◌≤◌, Bool, true, false, ◌&&◌, cond, nat_le, nat_lt, List, [], ◌∷◌, ◌++◌, IsTrue, refl, max, arith}
use Rattle.std.specs.List.{filter}
use Rattle.std.proofs.lemmas.Bool.{and_parts, false≢true, eq-eqb}
use Rattle.std.proofs.lemmas.Bool.Decides.{nat_tests}
use Rattle.ring_points.specs.declared.interval.Interval.{Interval}
use Rattle.ring_points.specs.Ranges.{in_interval, in_ranges, rises_from}
use Rattle.ring_points.proofs.Rising.{first_and_rest}
use Rattle.point_places.specs.declared.place.Place as declared
use Rattle.point_places.specs.declared.segments.Segment.{Segment}
use Rattle.point_places.specs.Segments.{spot_in, nowhere, rise_from, starts_at_0}
use Rattle.point_places.specs.Steps.{rest_after, put_interval, put_all}

abbrev pub segment : ℕ → declared.Place → Segment
segment lo place = record { lo = lo; place = place }

pub record RiseWith (low : ℕ) (s : Segment) (ss : List Segment) : Type 0 where
  pub from_low : low ≤ s.lo
  pub inside : s.lo < 2 ^ 64
  pub rest : IsTrue (rise_from (s.lo + 1) ss)

pub first_segment : (low : ℕ) (s : Segment) (ss : List Segment) → IsTrue (rise_from low (s ∷ ss)) → RiseWith low s ss
first_segment low s ss h = grind (arith, nat_tests, and_parts)

pub rise_with : (low : ℕ) (s : Segment) (ss : List Segment) → RiseWith low s ss → IsTrue (rise_from low (s ∷ ss))
rise_with low s ss h = grind (arith, nat_tests)

pub rise_from-less : (low less : ℕ) (ss : List Segment) → less ≤ low → IsTrue (rise_from low ss) → IsTrue (rise_from less ss)
rise_from-less low less [] l h = refl
rise_from-less low less (s ∷ ss) l h =
    let r = first_segment low s ss h in
    rise_with less s ss (record { from_low = omega arith; inside = r.inside; rest = r.rest })

-- before the first segment
pub spot_in-none : (low p : ℕ) (before : declared.Place) (ss : List Segment) → IsTrue (rise_from low ss) → p < low → spot_in before ss p ≡ before
spot_in-none low p before [] h l = refl
spot_in-none low p before (s ∷ ss) h l =
    let r = first_segment low s ss h in
    let rest : spot_in before ss p ≡ before = spot_in-none (s.lo + 1) p before ss r.rest (omega arith) in
    let out : nat_le s.lo p ≡ false = grind (arith, nat_tests) in
    rw out rest

pub spot_in-append : (p : ℕ) (before : declared.Place) (ss ts : List Segment) → spot_in before (ss ++ ts) p ≡ spot_in (spot_in before ss p) ts p
spot_in-append p before [] ts = refl
spot_in-append p before (s ∷ ss) ts = spot_in-append p (cond (nat_le s.lo p) s.place before) ss ts

abbrev below : ℕ → Segment → Bool
below lo s = nat_lt s.lo lo

abbrev above : ℕ → Segment → Bool
above at s = nat_lt at s.lo

-- the segments before lo tell the places before it
spot_in-below : (lo p : ℕ) (before : declared.Place) (ss : List Segment) → p < lo → spot_in before (filter (below lo) ss) p ≡ spot_in before ss p
spot_in-below lo p before [] l = refl
spot_in-below lo p before (s ∷ ss) l = by (nat_lt s.lo lo) refl (λ q. spot_in-below lo p q ss l)
  where
    by : (b : Bool) → nat_lt s.lo lo ≡ b → ((q : declared.Place) → spot_in q (filter (below lo) ss) p ≡ spot_in q ss p) → spot_in before (cond b (s ∷ filter (below lo) ss) (filter (below lo) ss)) p ≡ spot_in (cond (nat_le s.lo p) s.place before) ss p
    by true e rest = rest (cond (nat_le s.lo p) s.place before)
    by false e rest =
        let out : nat_le s.lo p ≡ false = grind (arith, nat_tests) in
        rw out (rest before)

rise_from-below : (low lo : ℕ) (ss ts : List Segment) → IsTrue (rise_from low ss) → low ≤ lo → IsTrue (rise_from lo ts) → IsTrue (rise_from low (filter (below lo) ss ++ ts))
rise_from-below low lo [] ts h l k = rise_from-less lo low ts l k
rise_from-below low lo (s ∷ ss) ts h l k = by (nat_lt s.lo lo) refl (λ m f n. rise_from-below m lo ss ts f n k)
  where
    r : RiseWith low s ss
    r = first_segment low s ss h

    by : (b : Bool) → nat_lt s.lo lo ≡ b → ((m : ℕ) → IsTrue (rise_from m ss) → m ≤ lo → IsTrue (rise_from m (filter (below lo) ss ++ ts)))
        → IsTrue (rise_from low (cond b (s ∷ filter (below lo) ss) (filter (below lo) ss) ++ ts))
    by true e more =
        let f = r in
        let fits : s.lo + 1 ≤ lo = grind (arith, nat_tests) in
        rise_with low s (filter (below lo) ss ++ ts) (record { from_low = f.from_low; inside = f.inside; rest = more (s.lo + 1) f.rest fits })
    by false e more =
        let f = r in
        more low (rise_from-less (s.lo + 1) low ss (omega arith) f.rest) l

-- and those behind a point, with its place before them, tell the places from it on
all_above : (low at : ℕ) (ss : List Segment) → IsTrue (rise_from low ss) → at < low → filter (above at) ss ≡ ss
all_above low at [] h l = refl
all_above low at (s ∷ ss) h l =
    let r = first_segment low s ss h in
    let up : nat_lt at s.lo ≡ true = grind (arith, nat_tests) in
    let rest : filter (above at) ss ≡ ss = all_above (s.lo + 1) at ss r.rest (omega arith) in
    rw (up, rest) refl

spot_in-above : (low at p : ℕ) (before : declared.Place) (ss : List Segment) → IsTrue (rise_from low ss) → at ≤ p → spot_in (spot_in before ss at) (filter (above at) ss) p ≡ spot_in before ss p
spot_in-above low at p before [] h l = refl
spot_in-above low at p before (s ∷ ss) h l = by (nat_le s.lo at) refl (spot_in-above (s.lo + 1) at p s.place ss (first_segment low s ss h).rest l)
  where
    r : RiseWith low s ss
    r = first_segment low s ss h

    by : (b : Bool) → nat_le s.lo at ≡ b → spot_in (spot_in s.place ss at) (filter (above at) ss) p ≡ spot_in s.place ss p
        → spot_in (spot_in (cond b s.place before) ss at) (filter (above at) (s ∷ ss)) p ≡ spot_in (cond (nat_le s.lo p) s.place before) ss p
    by true e rest =
        let f = r in
        let out : nat_lt at s.lo ≡ false = grind (arith, nat_tests) in
        let on : nat_le s.lo p ≡ true = grind (arith, nat_tests) in
        rw (out, on) rest
    by false e rest =
        let f = r in
        let up : at < s.lo = grind (arith, nat_tests) in
        let none = spot_in-none (s.lo + 1) at before ss f.rest (omega arith) in
        let all = all_above s.lo at (s ∷ ss) (rise_with s.lo s ss (record { from_low = omega arith; inside = f.inside; rest = f.rest })) up in
        rw (none, all) refl

rise_from-above : (low at : ℕ) (ss : List Segment) → IsTrue (rise_from low ss) → IsTrue (rise_from (max low (at + 1)) (filter (above at) ss))
rise_from-above low at [] h = refl
rise_from-above low at (s ∷ ss) h = by (nat_lt at s.lo) refl (rise_from-above (s.lo + 1) at ss (first_segment low s ss h).rest)
  where
    r : RiseWith low s ss
    r = first_segment low s ss h

    by : (b : Bool) → nat_lt at s.lo ≡ b → IsTrue (rise_from (max (s.lo + 1) (at + 1)) (filter (above at) ss)) → IsTrue (rise_from (max low (at + 1)) (cond b (s ∷ filter (above at) ss) (filter (above at) ss)))
    by true e rest =
        let f = r in
        let up : at < s.lo = grind (arith, nat_tests) in
        rise_with (max low (at + 1)) s (filter (above at) ss)
        (record { from_low = omega arith; inside = f.inside; rest = rise_from-less (max (s.lo + 1) (at + 1)) (s.lo + 1) (filter (above at) ss) (omega arith) rest })
    by false e rest =
        let f = r in
        rise_from-less (max (s.lo + 1) (at + 1)) (max low (at + 1)) (filter (above at) ss) (omega arith) rest

-- what is put behind an interval
rise_from-rest_after : (old : List Segment) (hi : ℕ) → IsTrue (rise_from 0 old) → IsTrue (rise_from (hi + 1) (rest_after old hi))
rise_from-rest_after old hi h = by (nat_lt (hi + 1) (2 ^ 64)) refl
  where
    by : (b : Bool) → nat_lt (hi + 1) (2 ^ 64) ≡ b → IsTrue (rise_from (hi + 1) (cond b (segment (hi + 1) (spot_in nowhere old (hi + 1)) ∷ filter (above (hi + 1)) old) []))
    by true e =
        rise_with (hi + 1) (segment (hi + 1) (spot_in nowhere old (hi + 1))) (filter (above (hi + 1)) old)
        (record { from_low = omega arith; inside = grind (arith, nat_tests); rest = rise_from-less (max 0 (hi + 1 + 1)) (hi + 1 + 1) (filter (above (hi + 1)) old) (omega arith) (rise_from-above 0 (hi + 1) old h) })
    by false e = refl

spot_in-rest_after : (old : List Segment) (hi p : ℕ) (place : declared.Place) → IsTrue (rise_from 0 old) → hi < p → p < 2 ^ 64 → spot_in place (rest_after old hi) p ≡ spot_in nowhere old p
spot_in-rest_after old hi p place h l m = by (nat_lt (hi + 1) (2 ^ 64)) refl
  where
    ltb_past : (n : ℕ) → nat_lt n (2 ^ 64) ≡ false → n < 2 ^ 64 → ⊥
    ltb_past n e k = grind (arith, nat_tests)

    by : (b : Bool) → nat_lt (hi + 1) (2 ^ 64) ≡ b → spot_in place (cond b (segment (hi + 1) (spot_in nowhere old (hi + 1)) ∷ filter (above (hi + 1)) old) []) p ≡ spot_in nowhere old p
    by true e =
        let on : nat_le (hi + 1) p ≡ true = grind (arith, nat_tests) in
        rw (on, spot_in) (spot_in-above 0 (hi + 1) p nowhere old h (omega arith))
    by false e = absurd (ltb_past (hi + 1) e (omega arith))

pub rise_from-put_interval : (old : List Segment) (i : Interval) (place : declared.Place) → IsTrue (rise_from 0 old) → i.lo ≤ i.hi → i.hi < 2 ^ 64 → IsTrue (rise_from 0 (put_interval old i place))
rise_from-put_interval old i place h l m =
    rise_from-below 0 i.lo old (segment i.lo place ∷ rest_after old i.hi) h (omega arith)
    (rise_with i.lo (segment i.lo place) (rest_after old i.hi)
    (record { from_low = omega arith; inside = omega arith; rest = rise_from-less (i.hi + 1) (i.lo + 1) (rest_after old i.hi) (omega arith) (rise_from-rest_after old i.hi h) }))

spot_in-put_interval : (old : List Segment) (i : Interval) (place : declared.Place) (p : ℕ) → IsTrue (rise_from 0 old) → i.lo ≤ i.hi → i.hi < 2 ^ 64 → p < 2 ^ 64 → spot_in nowhere (put_interval old i place) p ≡ cond (in_interval p i) place (spot_in nowhere old p)
spot_in-put_interval old i place p h l m n =
    let parts = spot_in-append p nowhere (filter (below i.lo) old) (segment i.lo place ∷ rest_after old i.hi) in
    rw parts (by (nat_le i.lo p) refl (nat_le p i.hi) refl)
  where
    first : declared.Place
    first = spot_in nowhere (filter (below i.lo) old) p

    by : (b : Bool) → nat_le i.lo p ≡ b → (d : Bool) → nat_le p i.hi ≡ d → spot_in (cond b place (spot_in nowhere (filter (below i.lo) old) p)) (rest_after old i.hi) p ≡ cond (b && d) place (spot_in nowhere old p)
    by false e d f =
        let none = spot_in-none (i.hi + 1) p (spot_in nowhere (filter (below i.lo) old) p) (rest_after old i.hi) (rise_from-rest_after old i.hi h) (grind (arith, nat_tests)) in
        rw none (spot_in-below i.lo p nowhere old (grind (arith, nat_tests)))
    by true e true f = spot_in-none (i.hi + 1) p place (rest_after old i.hi) (rise_from-rest_after old i.hi h) (grind (arith, nat_tests))
    by true e false f = spot_in-rest_after old i.hi p place h (grind (arith, nat_tests)) n

none_below : (lo : ℕ) (ss : List Segment) → lo ≡ 0 → filter (below lo) ss ≡ []
none_below lo [] e = refl
none_below lo (s ∷ ss) e =
    let no : nat_lt s.lo lo ≡ false = grind (arith, nat_tests) in
    rw no (none_below lo ss e)

starts_at_0-put_interval : (old : List Segment) (i : Interval) (place : declared.Place) → IsTrue (starts_at_0 old) → IsTrue (starts_at_0 (put_interval old i place))
starts_at_0-put_interval [] i place h = absurd (false≢true h)
starts_at_0-put_interval (s ∷ ss) i place h = by (nat_lt s.lo i.lo) refl
  where
    by : (b : Bool) → nat_lt s.lo i.lo ≡ b → IsTrue (starts_at_0 (cond b (s ∷ filter (below i.lo) ss) (filter (below i.lo) ss) ++ segment i.lo place ∷ rest_after (s ∷ ss) i.hi))
    by true e = h
    by false e =
        let at_0 : i.lo ≡ 0 = grind (arith, nat_tests) in
        rw (none_below i.lo ss at_0) (eq-eqb i.lo 0 at_0)

pub rise_from-put_all : (old : List Segment) (low : ℕ) (is : List Interval) (place : declared.Place) → IsTrue (rise_from 0 old) → IsTrue (rises_from low is) → IsTrue (rise_from 0 (put_all old is place))
rise_from-put_all old low [] place h k = h
rise_from-put_all old low (i ∷ is) place h k =
    let r = first_and_rest low i is k in
    rise_from-put_all (put_interval old i place) (i.hi + 2) is place (rise_from-put_interval old i place h r.ordered r.inside) r.rest

pub spot_in-put_all : (old : List Segment) (low : ℕ) (is : List Interval) (place : declared.Place) (p : ℕ) → IsTrue (rise_from 0 old) → IsTrue (rises_from low is) → p < 2 ^ 64 → spot_in nowhere (put_all old is place) p ≡ cond (in_ranges p is) place (spot_in nowhere old p)
spot_in-put_all old low [] place p h k n = refl
spot_in-put_all old low (i ∷ is) place p h k n =
    let r = first_and_rest low i is k in
    let here = spot_in-put_interval old i place p h r.ordered r.inside n in
    let rest = spot_in-put_all (put_interval old i place) (i.hi + 2) is place p (rise_from-put_interval old i place h r.ordered r.inside) r.rest n in
    grind (arith, nat_tests)

pub starts_at_0-put_all : (old : List Segment) (is : List Interval) (place : declared.Place) → IsTrue (starts_at_0 old) → IsTrue (starts_at_0 (put_all old is place))
starts_at_0-put_all old [] place h = h
starts_at_0-put_all old (i ∷ is) place h = starts_at_0-put_all (put_interval old i place) is place (starts_at_0-put_interval old i place h)
