-- The intervals of a place, and what is left of them.
use Rattle.std.proofs.Common.{◌≡◌, ℕ, ◌+◌, ◌-◌, ◌^◌, ◌<◌, ◌≤◌, Bool, true, false, not, ◌&&◌, ◌||◌, ◌==◌, cond, nat_le, List, [], ◌∷◌, Option, Some, None, IsTrue, refl, sym, ap, ◌∙◌, arith}
use Rattle.std.specs.List.{list_any, list_all}
use Rattle.std.proofs.lemmas.Bool.{and_parts, not-true, false≢true, leb-false}
use Rattle.std.proofs.lemmas.Bool.Decides.{nat_tests}
use Rattle.ring_points.specs.declared.interval.Interval.{Interval}
use Rattle.ring_points.specs.declared.who.Who.{Who}
use Rattle.ring_points.specs.Ranges.{in_interval, in_ranges, rises_from, is_proper}
use Rattle.ring_points.specs.Sets.{minus_of}
use Rattle.ring_points.proofs.Rising.{rises_with, rises_from-less}
use Rattle.ring_points.proofs.Cuts.{in_ranges-minus_of, rises_from-minus_of}
use Rattle.ring_points.proofs.Answered.{proper_rises}
use Rattle.fabric_terms.specs.Places.{Place, With, Flying}
use Rattle.point_places.specs.declared.place.Place as declared
use Rattle.point_places.specs.declared.segments.Segment.{Segment}
use Rattle.point_places.specs.declared.unheld.Holder.{Holder}
use Rattle.point_places.specs.Order.{seen, is_same}
use Rattle.point_places.specs.Segments.{spot_in, nowhere, place_at, rise_from, repeats, changes_after, is_cut}
use Rattle.point_places.specs.Steps.{last_before, spans_of, less_held}
use Rattle.point_places.specs.Lines.{held_by, is_told}
use Rattle.point_places.proofs.Orders.{same_is, same_back, same_whos}
use Rattle.point_places.proofs.Cutting.{RiseWith, first_segment, rise_with, spot_in-none}
use Rattle.point_places.proofs.Tidying.{Cut, cut_is}

abbrev interval : ℕ → ℕ → Interval
interval lo hi = record { lo = lo; hi = hi }

in_spans-cons : (p : ℕ) (b : Bool) (i : Interval) (is : List Interval) → in_ranges p (cond b (i ∷ is) is) ≡ ((b && in_interval p i) || in_ranges p is)
in_spans-cons p true i is = refl
in_spans-cons p false i is = refl

-- from the first segment on these are the points of the place
pub in_spans : (low p : ℕ) (q : Place) (before : declared.Place) (s : Segment) (ss : List Segment) → IsTrue (rise_from low (s ∷ ss)) → p < 2 ^ 64
    → in_ranges p (spans_of q (s ∷ ss)) ≡ (nat_le s.lo p && is_same q (seen (spot_in before (s ∷ ss) p)))
in_spans low p q before s [] h l =
    in_spans-cons p (is_same q (seen s.place)) (interval s.lo (2 ^ 64 - 1)) [] ∙ by (is_same q (seen s.place)) refl (nat_le s.lo p) refl
  where
    by : (b : Bool) → is_same q (seen s.place) ≡ b → (d : Bool) → nat_le s.lo p ≡ d → ((b && in_interval p (interval s.lo (2 ^ 64 - 1))) || false) ≡ (d && is_same q (seen (cond d s.place before)))
    by b e true f = let last : nat_le p (2 ^ 64 - 1) ≡ true = grind (arith, nat_tests) in grind (arith, nat_tests)
    by b e false f = grind (arith, nat_tests)
in_spans low p q before s (t ∷ ts) h l =
    let r = first_segment low s (t ∷ ts) h in
    let u = first_segment (s.lo + 1) t ts r.rest in
    let rest = in_spans (s.lo + 1) p q s.place t ts r.rest l in
    let from : IsTrue (rise_from t.lo (t ∷ ts)) = rise_with t.lo t ts (record { from_low = omega arith; inside = u.inside; rest = u.rest }) in
    in_spans-cons p (is_same q (seen s.place)) (interval s.lo (t.lo - 1)) (spans_of q (t ∷ ts))
    ∙ (ap (λ b. (is_same q (seen s.place) && in_interval p (interval s.lo (t.lo - 1))) || b) rest
    ∙ pieces (nat_le s.lo p) (nat_le t.lo p) (nat_le p (t.lo - 1)) (is_same q (seen s.place))
    (is_same q (seen (spot_in s.place (t ∷ ts) p))) (is_same q (seen (spot_in (cond (nat_le s.lo p) s.place before) (t ∷ ts) p)))
    (λ e. later (s.lo) (t.lo) u.from_low e) (ends (s.lo) (t.lo) u.from_low)
    (λ e. ap (λ x. is_same q (seen x)) (spot_in-none t.lo p s.place (t ∷ ts) from (leb-false t.lo p e)))
    (λ e. ap (λ b. is_same q (seen (spot_in (cond b s.place before) (t ∷ ts) p))) e))
  where
    later : (a b : ℕ) → a + 1 ≤ b → nat_le b p ≡ true → nat_le a p ≡ true
    later a b n e = grind (arith, nat_tests)

    ends : (a b : ℕ) → a + 1 ≤ b → nat_le p (b - 1) ≡ not (nat_le b p)
    ends a b n = grind (arith, nat_tests)

    pieces : (a d u m x y : Bool) → (d ≡ true → a ≡ true) → u ≡ not d → (d ≡ false → x ≡ m) → (a ≡ true → y ≡ x) → ((m && (a && u)) || (d && x)) ≡ (a && y)
    pieces false true u m x y f e g k = absurd (false≢true (f refl))
    pieces false false u true x y f e g k = refl
    pieces false false u false x y f e g k = refl
    pieces true true u true x y f e g k = rw e (sym (k refl))
    pieces true true u false x y f e g k = sym (k refl)
    pieces true false u true x y f e g k = rw e (sym (k refl ∙ g refl))
    pieces true false u false x y f e g k = sym (k refl ∙ g refl)

-- a place that stays begins no new interval before the next point but one
abbrev stays : Option declared.Place → Place → Bool
stays None q = false
stays (Some before) q = is_same q (seen before)

abbrev first_from : Bool → ℕ → ℕ
first_from b low = cond b (low + 1) low

first_from-most : (b : Bool) (low : ℕ) → first_from b low ≤ low + 1
first_from-most true low = omega arith
first_from-most false low = omega arith

new_stays : (before : Option declared.Place) (q : Place) (place : declared.Place) → IsTrue (is_same q (seen place)) → repeats before place ≡ false → stays before q ≡ false
new_stays None q place h k = refl
new_stays (Some other) q place h k = rw (same_is q (seen place) h) (same_back (seen place) (seen other) ∙ k)

span_fits : (lo : ℕ) (ss : List Segment) → lo < 2 ^ 64 → IsTrue (rise_from (lo + 1) ss) → (lo ≤ last_before ss) × (last_before ss < 2 ^ 64)
span_fits lo [] h k = (omega arith, omega arith)
span_fits lo (t ∷ ts) h k = let u = first_segment (lo + 1) t ts k in (omega arith, omega arith)

rest_rises : (lo : ℕ) (q : Place) (ss : List Segment) → IsTrue (rise_from (lo + 1) ss) → ((m : ℕ) → IsTrue (rise_from m ss) → IsTrue (rises_from (m + 1) (spans_of q ss))) → IsTrue (rises_from (last_before ss + 2) (spans_of q ss))
rest_rises lo q [] h rest = refl
rest_rises lo q (t ∷ ts) h rest =
    let u = first_segment (lo + 1) t ts h in
    let e : t.lo - 1 + 2 ≡ t.lo + 1 = omega arith in
    rw e (rest t.lo (rise_with t.lo t ts (record { from_low = omega arith; inside = u.inside; rest = u.rest })))

spans_rise_on : (low : ℕ) (q : Place) (before : Option declared.Place) (s : Segment) (ss : List Segment) (b : Bool) → is_same q (seen s.place) ≡ b
    → RiseWith low s ss → repeats before s.place ≡ false
    → ((m : ℕ) → IsTrue (rise_from m ss) → IsTrue (rises_from (first_from b m) (spans_of q ss)))
    → IsTrue (rises_from (first_from (stays before q) low) (cond b (interval s.lo (last_before ss) ∷ spans_of q ss) (spans_of q ss)))
spans_rise_on low q before s ss true e r new rest =
    let fits = span_fits s.lo ss r.inside r.rest in
    rw (new_stays before q s.place e new)
    (rises_with low (interval s.lo (last_before ss)) (spans_of q ss)
    (record { from_low = r.from_low; ordered = fits.0; inside = fits.1; rest = rest_rises s.lo q ss r.rest rest }))
spans_rise_on low q before s ss false e r new rest =
    let most = first_from-most (stays before q) low in
    rises_from-less (s.lo + 1) (first_from (stays before q) low) (spans_of q ss) (omega (arith, most, r.from_low)) (rest (s.lo + 1) r.rest)

spans_rise : (low : ℕ) (q : Place) (before : Option declared.Place) (ss : List Segment) → IsTrue (rise_from low ss) → IsTrue (changes_after before ss)
    → IsTrue (rises_from (first_from (stays before q) low) (spans_of q ss))
spans_rise low q before [] h k = refl
spans_rise low q before (s ∷ ss) h k =
    let parts = and_parts (not (repeats before s.place)) (changes_after (Some s.place) ss) k in
    spans_rise_on low q before s ss (is_same q (seen s.place)) refl (first_segment low s ss h) (not-true (repeats before s.place) parts.0)
    (λ m f. spans_rise m q (Some s.place) ss f parts.1)

abbrev proper : List Holder → Bool
proper holders = list_all (λ h. is_proper h.ranges) holders

abbrev taken : Place → ℕ → List Holder → Bool
taken q p holders = list_any (λ h. is_same q (With h.who) && in_ranges p h.ranges) holders

less_rises : (q : Place) (hs : List Holder) (is : List Interval) → IsTrue (proper hs) → IsTrue (rises_from 0 is) → IsTrue (rises_from 0 (less_held q hs is))
less_rises q [] is h k = k
less_rises q (x ∷ hs) is h k =
    let parts = and_parts (is_proper x.ranges) (proper hs) h in
    by (is_same q (With x.who)) (proper_rises x.ranges parts.0) (λ js f. less_rises q hs js parts.1 f)
  where
    by : (b : Bool) → IsTrue (rises_from 0 x.ranges) → ((js : List Interval) → IsTrue (rises_from 0 js) → IsTrue (rises_from 0 (less_held q hs js))) → IsTrue (rises_from 0 (less_held q hs (cond b (minus_of is x.ranges) is)))
    by true r rest = rest (minus_of is x.ranges) (rises_from-minus_of 0 0 is x.ranges k r)
    by false r rest = rest is k

none_left : (a b d : Bool) → (a && not b) && not d ≡ (a && not (b || d))
none_left true true d = refl
none_left true false d = refl
none_left false b d = refl

and_true : (b : Bool) → b ≡ (b && true)
and_true true = refl
and_true false = refl

in_less_held : (p : ℕ) (q : Place) (hs : List Holder) (is : List Interval) → IsTrue (proper hs) → IsTrue (rises_from 0 is) → in_ranges p (less_held q hs is) ≡ (in_ranges p is && not (taken q p hs))
in_less_held p q [] is h k = and_true (in_ranges p is)
in_less_held p q (x ∷ hs) is h k =
    let parts = and_parts (is_proper x.ranges) (proper hs) h in
    by (is_same q (With x.who)) (proper_rises x.ranges parts.0) (λ js f. in_less_held p q hs js parts.1 f)
  where
    by : (b : Bool) → IsTrue (rises_from 0 x.ranges)
        → ((js : List Interval) → IsTrue (rises_from 0 js) → in_ranges p (less_held q hs js) ≡ (in_ranges p js && not (taken q p hs)))
        → in_ranges p (less_held q hs (cond b (minus_of is x.ranges) is)) ≡ (in_ranges p is && not ((b && in_ranges p x.ranges) || taken q p hs))
    by true r rest =
        rest (minus_of is x.ranges) (rises_from-minus_of 0 0 is x.ranges k r)
        ∙ (ap (λ b. b && not (taken q p hs)) (in_ranges-minus_of p 0 0 is x.ranges k r) ∙ none_left (in_ranges p is) (in_ranges p x.ranges) (taken q p hs))
    by false r rest = rest is k

taken_is : (w : Who) (p : ℕ) (hs : List Holder) → taken (With w) p hs ≡ held_by hs w p
taken_is w p [] = refl
taken_is w p (x ∷ hs) = let same = same_whos x.who w in let rest = taken_is w p hs in rw (same, rest) refl

flying_free : (giver : Who) (number : ℕ) (receiver : Who) (p : ℕ) (hs : List Holder) → taken (Flying giver number receiver) p hs ≡ false
flying_free giver number receiver p [] = refl
flying_free giver number receiver p (x ∷ hs) = flying_free giver number receiver p hs

told_if : (q : Place) (p : ℕ) (hs : List Holder) → not (taken q p hs) ≡ is_told (held_by hs) q p
told_if (With w) p hs = ap not (taken_is w p hs)
told_if (Flying giver number receiver) p hs = ap not (flying_free giver number receiver p hs)

-- what is told of a place
abbrev pub ranges_for : List Segment → List Holder → Place → List Interval
ranges_for segments holders q = less_held q holders (spans_of q segments)

all_spans : (segments : List Segment) (q : Place) (p : ℕ) → Cut segments → p < 2 ^ 64 → in_ranges p (spans_of q segments) ≡ is_same q (place_at segments p)
all_spans [] q p c l = absurd (false≢true c.starts)
all_spans (s ∷ ss) q p c l =
    let from : nat_le s.lo p ≡ true = starts (s.lo) p c.starts in
    in_spans 0 p q nowhere s ss c.rises l ∙ ap (λ b. b && is_same q (place_at (s ∷ ss) p)) from
  where
    starts : (lo p : ℕ) → IsTrue (lo == 0) → nat_le lo p ≡ true
    starts lo p h = grind (arith, nat_tests)

pub told_rises : (segments : List Segment) (holders : List Holder) (q : Place) → IsTrue (is_cut segments) → IsTrue (proper holders) → IsTrue (rises_from 0 (ranges_for segments holders q))
told_rises segments holders q h k =
    let c = cut_is segments h in
    less_rises q holders (spans_of q segments) k (spans_rise 0 q None segments c.rises c.changes)

pub told_points : (segments : List Segment) (holders : List Holder) (q : Place) (p : ℕ) → IsTrue (is_cut segments) → IsTrue (proper holders) → p < 2 ^ 64
    → in_ranges p (ranges_for segments holders q) ≡ (is_same q (place_at segments p) && is_told (held_by holders) q p)
told_points segments holders q p h k l =
    let c = cut_is segments h in
    in_less_held p q holders (spans_of q segments) k (spans_rise 0 q None segments c.rises c.changes)
    ∙ (ap (λ b. b && not (taken q p holders)) (all_spans segments q p c l) ∙ ap (λ b. is_same q (place_at segments p) && b) (told_if q p holders))
