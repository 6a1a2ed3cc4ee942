-- The lines for places and holders are the only ones.
use Rattle.std.proofs.Common.{◌≡◌, ◌⊎◌, ℕ, ◌^◌, ◌<◌, Bool, true, false, ◌&&◌, ◌||◌, List, [], ◌∷◌, IsTrue, inl, inr, refl, sym, ap, ◌∙◌, arith}
use Rattle.std.specs.List.{All, list_all, flat_map}
use Rattle.std.proofs.lemmas.Bool.{and_parts, and_from, or_from, false≢true, cases_lt}
use Rattle.std.proofs.lemmas.Bool.Decides.{nat_tests}
use Rattle.std.proofs.lemmas.List.Elements.{All-head, All-tail}
use Rattle.ring_points.specs.declared.interval.Interval.{Interval}
use Rattle.ring_points.specs.declared.who.Who.{Who}
use Rattle.ring_points.specs.Ranges.{in_ranges, rises_from}
use Rattle.ring_points.proofs.Rising.{first_and_rest, in_ranges-ring}
use Rattle.ring_points.proofs.OneList.{one_list}
use Rattle.fabric_terms.specs.Places.{Place}
use Rattle.point_places.specs.Order.{is_before, is_same}
use Rattle.point_places.specs.Lines.{is_told, Line, IsLine, lines_rise, has_line, line_text, IsText}
use Rattle.point_places.proofs.Orders.{same_is, before_differs, behind_differs, before_goes_on, three}

-- two rising lists with the same points of the ring
one_ring_list : (is js : List Interval) → IsTrue (rises_from 0 is) → IsTrue (rises_from 0 js) → ((p : ℕ) → p < 2 ^ 64 → in_ranges p is ≡ in_ranges p js) → is ≡ js
one_ring_list is js h k same =
    one_list 0 0 is js h k
    (λ p. let cases = cases_lt p (2 ^ 64) in let e = same p in let i = in_ranges-ring 0 p is h in let j = in_ranges-ring 0 p js k in grind arith)

abbrev line : Place → List Interval → Line
line place ranges = record { place = place; ranges = ranges }

-- a place has one line
one_line : (place : ℕ → Place) (held : Who → ℕ → Bool) (l m : Line) → IsLine place held l → IsLine place held m → l.place ≡ m.place → l ≡ m
one_line place held l m a b e =
    let ranges : l.ranges ≡ m.ranges =
    one_ring_list l.ranges m.ranges a.apart b.apart
    (λ p h. a.points p h ∙ (ap (λ q. is_same q (place p) && is_told held q p) e ∙ sym (b.points p h))) in
    ap (λ q. line q l.ranges) e ∙ ap (λ is. line m.place is) ranges

-- a line tells a point
some_point : (place : ℕ → Place) (held : Who → ℕ → Bool) (l : Line) → IsLine place held l → (p : ℕ) × (p < 2 ^ 64) × (l.place ≡ place p) × IsTrue (is_told held (place p) p)
some_point place held l a = by l.ranges refl
  where
    by : (is : List Interval) → l.ranges ≡ is → (p : ℕ) × (p < 2 ^ 64) × (l.place ≡ place p) × IsTrue (is_told held (place p) p)
    by [] e = let none : 0 < 0 = rw e at a.some in absurd (omega arith)
    by (i ∷ is) e =
        let r = first_and_rest 0 i is (rw e at a.apart) in
        let inside : i.lo < 2 ^ 64 = omega arith in
        let at_lo : IsTrue (in_ranges i.lo (i ∷ is)) = grind (arith, nat_tests) in
        let told = and_parts (is_same l.place (place i.lo)) (is_told held l.place i.lo) (sym (a.points i.lo inside) ∙ (ap (in_ranges i.lo) e ∙ at_lo)) in
        let same = same_is l.place (place i.lo) told.0 in
        (i.lo, inside, same, ap (λ q. is_told held q i.lo) (sym same) ∙ told.1)

abbrev lines_behind : Place → List Line → Bool
lines_behind a lines = list_all (λ m. is_before a m.place) lines

-- each place of the first lines has a line among the second
abbrev covers : List Line → List Line → Bool
covers ms ls = list_all (λ l. has_line l.place ms) ls

covered : (place : ℕ → Place) (held : Who → ℕ → Bool) (ms ls : List Line)
    → ((p : ℕ) → p < 2 ^ 64 → IsTrue (is_told held (place p) p) → IsTrue (has_line (place p) ms)) → All (IsLine place held) ls → IsTrue (covers ms ls)
covered place held ms [] every h = refl
covered place held ms (l ∷ ls) every h =
    let some = some_point place held l (All-head (IsLine place held) l ls h) in
    and_from (has_line l.place ms) (covers ms ls) (ap (λ q. has_line q ms) some.2 ∙ every some.0 some.1 some.3)
    (covered place held ms ls every (All-tail (IsLine place held) l ls h))

-- no line of what stands behind
none_behind : (a b : Place) (ms : List Line) → IsTrue (is_before a b) → IsTrue (lines_behind b ms) → has_line a ms ≡ false
none_behind a b [] h k = refl
none_behind a b (m ∷ ms) h k =
    let parts = and_parts (is_before b m.place) (lines_behind b ms) k in
    let here = before_differs a m.place (before_goes_on a b m.place h parts.0) in
    let rest = none_behind a b ms h parts.1 in
    rw (here, rest) refl

first_is_first : (l m : Line) (ls ms : List Line) → IsTrue (lines_behind m.place ms) → IsTrue (covers (m ∷ ms) (l ∷ ls)) → IsTrue (is_before l.place m.place) → ⊥
first_is_first l m ls ms h k below =
    let parts = and_parts (has_line l.place (m ∷ ms)) (covers (m ∷ ms) ls) k in
    let here = before_differs l.place m.place below in
    let rest = none_behind l.place m.place ms below h in
    false≢true (sym (or_from (is_same l.place m.place) (has_line l.place ms) here rest) ∙ parts.0)

-- what stands behind the first line has its lines behind it
covers_rest : (m : Line) (ls ms : List Line) → IsTrue (lines_behind m.place ls) → IsTrue (covers (m ∷ ms) ls) → IsTrue (covers ms ls)
covers_rest m [] ms h k = refl
covers_rest m (l ∷ ls) ms h k =
    let parts = and_parts (is_before m.place l.place) (lines_behind m.place ls) h in
    let both_parts = and_parts (has_line l.place (m ∷ ms)) (covers (m ∷ ms) ls) k in
    and_from (has_line l.place ms) (covers ms ls)
    (other (is_same l.place m.place) (has_line l.place ms) (behind_differs l.place m.place parts.0) both_parts.0) (covers_rest m ls ms parts.1 both_parts.1)
  where
    other : (a b : Bool) → a ≡ false → IsTrue (a || b) → IsTrue b
    other true b e f = absurd (false≢true (sym e))
    other false b e f = f

one_listing : (place : ℕ → Place) (held : Who → ℕ → Bool) (ls ms : List Line) → IsTrue (lines_rise ls) → IsTrue (lines_rise ms)
    → All (IsLine place held) ls → All (IsLine place held) ms → IsTrue (covers ms ls) → IsTrue (covers ls ms) → ls ≡ ms
one_listing place held [] [] h k a b c d = refl
one_listing place held [] (m ∷ ms) h k a b c d = absurd (false≢true d)
one_listing place held (l ∷ ls) [] h k a b c d = absurd (false≢true c)
one_listing place held (l ∷ ls) (m ∷ ms) h k a b c d =
    let first = and_parts (lines_behind l.place ls) (lines_rise ls) h in
    let second = and_parts (lines_behind m.place ms) (lines_rise ms) k in
    let rest = and_parts (has_line l.place (m ∷ ms)) (covers (m ∷ ms) ls) c in
    let others = and_parts (has_line m.place (l ∷ ls)) (covers (l ∷ ls) ms) d in
    by (three l.place m.place) first.0 second.0
    (λ e. one_line place held l m (All-head (IsLine place held) l ls a) (All-head (IsLine place held) m ms b) e)
    (λ e. one_listing place held ls ms first.1 second.1 (All-tail (IsLine place held) l ls a) (All-tail (IsLine place held) m ms b)
    (covers_rest m ls ms (ap (λ q. lines_behind q ls) (sym e) ∙ first.0) rest.1)
    (covers_rest l ms ls (ap (λ q. lines_behind q ms) e ∙ second.0) others.1))
  where
    by : IsTrue (is_before l.place m.place) ⊎ IsTrue (is_same l.place m.place) ⊎ IsTrue (is_before m.place l.place)
        → IsTrue (lines_behind l.place ls) → IsTrue (lines_behind m.place ms)
        → (l.place ≡ m.place → l ≡ m) → (l.place ≡ m.place → ls ≡ ms) → (l ∷ ls) ≡ (m ∷ ms)
    by (inl below) f s here more = absurd (first_is_first l m ls ms s c below)
    by (inr (inl same)) f s here more = let e = here (same_is l.place m.place same) in let g = more (same_is l.place m.place same) in cc
    by (inr (inr above)) f s here more = absurd (first_is_first m l ms ls f d above)

pub one_text : (place : ℕ → Place) (held : Who → ℕ → Bool) (text other : List ℕ) → IsText place held text → IsText place held other → text ≡ other
one_text place held text other a b =
    let t = a.told in
    let u = b.told in
    let same = one_listing place held a.lines b.lines t.rise u.rise t.each u.each (covered place held b.lines a.lines u.every t.each) (covered place held a.lines b.lines t.every u.each) in
    a.spelled ∙ (ap (flat_map line_text) same ∙ sym b.spelled)
