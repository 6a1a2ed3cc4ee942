-- Segments without those that repeat the place before.
use Rattle.std.proofs.Common.{◌≡◌, ℕ, ◌+◌, ◌^◌, ◌<◌, ◌≤◌, Bool, true, false, ◌&&◌, cond, nat_le, List, [], ◌∷◌, Option, Some, None, IfSome, IsTrue, refl, ap, ◌∙◌, arith}
use Rattle.std.proofs.lemmas.Bool.{and_parts}
use Rattle.std.proofs.lemmas.Bool.Decides.{nat_tests}
use Rattle.ring_points.specs.declared.interval.Interval.{Interval}
use Rattle.ring_points.specs.Ranges.{in_ranges, rises_from}
use Rattle.fabric_terms.specs.Places.{moved_to}
use Rattle.point_places.specs.declared.place.Place as declared
use Rattle.point_places.specs.declared.place.Place.TheVariants as kept
use Rattle.point_places.specs.declared.segments.Segment.{Segment}
use Rattle.point_places.specs.Order.{seen}
use Rattle.point_places.specs.Segments.{spot_in, nowhere, place_at, rise_from, repeats, changes_after, starts_at_0, is_cut}
use Rattle.point_places.specs.Steps.{put_all, tidied}
use Rattle.point_places.proofs.Orders.{same_is}
use Rattle.point_places.proofs.Cutting.{RiseWith, first_segment, rise_with, rise_from-less, rise_from-put_all, spot_in-put_all, starts_at_0-put_all}

pub seen_once : (a b : declared.Place) → seen a ≡ seen b → a ≡ b
seen_once (kept.With v) (kept.With w) e = cc
seen_once (kept.With v) (kept.Flying h m s) e = absurd (cc)
seen_once (kept.Flying g n r) (kept.With w) e = absurd (cc)
seen_once (kept.Flying g n r) (kept.Flying h m s) e = cc

rise_from-tidied : (low : ℕ) (before : Option declared.Place) (ss : List Segment) → IsTrue (rise_from low ss) → IsTrue (rise_from low (tidied before ss))
rise_from-tidied low before [] h = refl
rise_from-tidied low before (s ∷ ss) h = by (repeats before s.place) (λ o. rise_from-tidied (s.lo + 1) o ss (first_segment low s ss h).rest)
  where
    r : RiseWith low s ss
    r = first_segment low s ss h

    by : (b : Bool) → ((o : Option declared.Place) → IsTrue (rise_from (s.lo + 1) (tidied o ss))) → IsTrue (rise_from low (cond b (tidied before ss) (s ∷ tidied (Some s.place) ss)))
    by true rest = let f = r in rise_from-less (s.lo + 1) low (tidied before ss) (omega arith) (rest before)
    by false rest =
        let f = r in
        rise_with low s (tidied (Some s.place) ss) (record { from_low = f.from_low; inside = f.inside; rest = rest (Some s.place) })

changes-tidied : (before : Option declared.Place) (ss : List Segment) → IsTrue (changes_after before (tidied before ss))
changes-tidied before [] = refl
changes-tidied before (s ∷ ss) = by (repeats before s.place) refl (λ o. changes-tidied o ss)
  where
    by : (b : Bool) → repeats before s.place ≡ b → ((o : Option declared.Place) → IsTrue (changes_after o (tidied o ss))) → IsTrue (changes_after before (cond b (tidied before ss) (s ∷ tidied (Some s.place) ss)))
    by true e rest = rest before
    by false e rest = rw e (rest (Some s.place))

-- from low on the place so far is the one before
abbrev Reaches : ℕ → ℕ → Option declared.Place → declared.Place → Type 0
Reaches low p before so_far = IfSome before (λ place. low ≤ p → so_far ≡ place)

further : (low more p : ℕ) (before : Option declared.Place) (so_far : declared.Place) → low ≤ more → Reaches low p before so_far → Reaches more p before so_far
further low more p None so_far l h = h
further low more p (Some place) so_far l h = λ m. h (omega arith)

repeated_is : (before : Option declared.Place) (place : declared.Place) → IsTrue (repeats before place) → before ≡ Some place
repeated_is None place h = absurd (cc)
repeated_is (Some other) place h = ap Some (seen_once other place (same_is (seen other) (seen place) h))

spot_in-tidied : (low p : ℕ) (so_far : declared.Place) (before : Option declared.Place) (ss : List Segment) → IsTrue (rise_from low ss) → Reaches low p before so_far → spot_in so_far (tidied before ss) p ≡ spot_in so_far ss p
spot_in-tidied low p so_far before [] h k = refl
spot_in-tidied low p so_far before (s ∷ ss) h k =
    by (repeats before s.place) refl (nat_le s.lo p) refl (λ q o. spot_in-tidied (s.lo + 1) p q o ss (first_segment low s ss h).rest)
  where
    r : RiseWith low s ss
    r = first_segment low s ss h

    by : (b : Bool) → repeats before s.place ≡ b → (d : Bool) → nat_le s.lo p ≡ d
        → ((q : declared.Place) (o : Option declared.Place) → Reaches (s.lo + 1) p o q → spot_in q (tidied o ss) p ≡ spot_in q ss p)
        → spot_in so_far (cond b (tidied before ss) (s ∷ tidied (Some s.place) ss)) p ≡ spot_in (cond d s.place so_far) ss p
    by true e true f rest =
        let g = r in
        let on : s.lo ≤ p = grind (arith, nat_tests) in
        let is : before ≡ Some s.place = repeated_is before s.place e in
        let here : Reaches low p (Some s.place) so_far = rw is at k in
        let same : so_far ≡ s.place = here (omega arith) in
        rest so_far before (further low (s.lo + 1) p before so_far (omega arith) k) ∙ ap (λ q. spot_in q ss p) same
    by true e false f rest =
        let g = r in
        rest so_far before (further low (s.lo + 1) p before so_far (omega arith) k)
    by false e true f rest = rw (f, spot_in) (rest s.place (Some s.place) (λ l. refl))
    by false e false f rest =
        let out : p < s.lo = grind (arith, nat_tests) in
        rw (f, spot_in) (rest so_far (Some s.place) (λ l. absurd (omega arith)))

starts-tidied : (ss : List Segment) → IsTrue (starts_at_0 ss) → IsTrue (starts_at_0 (tidied None ss))
starts-tidied [] h = h
starts-tidied (s ∷ ss) h = h

-- what a cut of the ring is
pub record Cut (ss : List Segment) : Type 0 where
  pub starts : IsTrue (starts_at_0 ss)
  pub rises : IsTrue (rise_from 0 ss)
  pub changes : IsTrue (changes_after None ss)

pub cut_is : (ss : List Segment) → IsTrue (is_cut ss) → Cut ss
cut_is ss h =
    let outer = and_parts (starts_at_0 ss && rise_from 0 ss) (changes_after None ss) h in
    let inner = and_parts (starts_at_0 ss) (rise_from 0 ss) outer.0 in
    record { starts = inner.0; rises = inner.1; changes = outer.1 }

is_cut-from : (ss : List Segment) → Cut ss → IsTrue (is_cut ss)
is_cut-from ss c = rw (c.starts, c.rises, c.changes) refl

pub put_cut : (old : List Segment) (is : List Interval) (place : declared.Place) → IsTrue (is_cut old) → IsTrue (rises_from 0 is) → IsTrue (is_cut (tidied None (put_all old is place)))
put_cut old is place h k =
    let c = cut_is old h in
    let new = put_all old is place in
    is_cut-from (tidied None new) (record {
      starts = starts-tidied new (starts_at_0-put_all old is place c.starts);
      rises = rise_from-tidied 0 None new (rise_from-put_all old 0 is place c.rises k);
      changes = changes-tidied None new;
    })

seen-cond : (b : Bool) (place old : declared.Place) → seen (cond b place old) ≡ moved_to (seen place) b (seen old)
seen-cond true place old = refl
seen-cond false place old = refl

pub put_place : (old : List Segment) (is : List Interval) (place : declared.Place) (p : ℕ) → IsTrue (is_cut old) → IsTrue (rises_from 0 is) → p < 2 ^ 64 → place_at (tidied None (put_all old is place)) p ≡ moved_to (seen place) (in_ranges p is) (place_at old p)
put_place old is place p h k l =
    let c = cut_is old h in
    let same = spot_in-tidied 0 p nowhere None (put_all old is place) (rise_from-put_all old 0 is place c.rises k) tt in
    let put = spot_in-put_all old 0 is place p c.rises k l in
    ap seen (same ∙ put) ∙ seen-cond (in_ranges p is) place (spot_in nowhere old p)
