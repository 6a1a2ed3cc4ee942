-- The lines that are made are the lines for the places and holders.
use Rattle.std.proofs.Common.{◌≡◌, ◌⊎◌, ℕ, ◌^◌, ◌<◌, Bool, ◌&&◌, List, [], ◌∷◌, ◌++◌, length, IsTrue, inl, inr, refl, sym, ap, ◌∙◌, arith}
use Rattle.std.specs.List.{All, list_all, flat_map}
use Rattle.std.proofs.lemmas.Bool.{and_parts, and_from, or_cases, false≢true, or_left, or_right}
use Rattle.std.proofs.lemmas.List.Elements.{All-nil, All-cons}
use Rattle.ring_points.specs.declared.interval.Interval.{Interval}
use Rattle.ring_points.specs.declared.who.Who.{Who}
use Rattle.ring_points.specs.Ranges.{in_ranges, rises_from, is_proper}
use Rattle.fabric_terms.specs.Places.{Place}
use Rattle.point_places.specs.declared.place.Place as declared
use Rattle.point_places.specs.declared.segments.Segment.{Segment}
use Rattle.point_places.specs.declared.unheld.Holder.{Holder}
use Rattle.point_places.specs.Order.{seen, is_before, is_same}
use Rattle.point_places.specs.Segments.{place_at, is_cut}
use Rattle.point_places.specs.Steps.{places_from, line_if, lines_for}
use Rattle.point_places.specs.Lines.{held_by, is_told, Line, IsLine, lines_rise, has_line, AreLines, line_text, IsText}
use Rattle.point_places.proofs.Orders.{same_is, same_itself}
use Rattle.point_places.proofs.Tidying.{cut_is}
use Rattle.point_places.proofs.Spans.{ranges_for, told_rises, told_points}
use Rattle.point_places.proofs.InOrder.{behind, places_rise, has, rise_places_from, has_place_at}

abbrev lines_behind : Place → List Line → Bool
lines_behind a lines = list_all (λ m. is_before a m.place) lines

behind_line_if : (a q : Place) (is : List Interval) (rest : List Line) → IsTrue (is_before a q) → IsTrue (lines_behind a rest) → IsTrue (lines_behind a (line_if q is ++ rest))
behind_line_if a q [] rest h k = k
behind_line_if a q (i ∷ is) rest h k = and_from (is_before a q) (lines_behind a rest) h k

rise_line_if : (q : Place) (is : List Interval) (rest : List Line) → IsTrue (lines_behind q rest) → IsTrue (lines_rise rest) → IsTrue (lines_rise (line_if q is ++ rest))
rise_line_if q [] rest h k = k
rise_line_if q (i ∷ is) rest h k = and_from (lines_behind q rest) (lines_rise rest) h k

lines_behind_for : (segments : List Segment) (holders : List Holder) (a : Place) (qs : List declared.Place) → IsTrue (behind a qs) → IsTrue (lines_behind a (lines_for segments holders qs))
lines_behind_for segments holders a [] h = refl
lines_behind_for segments holders a (q ∷ qs) h =
    let parts = and_parts (is_before a (seen q)) (behind a qs) h in
    behind_line_if a (seen q) (ranges_for segments holders (seen q)) (lines_for segments holders qs) parts.0 (lines_behind_for segments holders a qs parts.1)

rise_lines_for : (segments : List Segment) (holders : List Holder) (qs : List declared.Place) → IsTrue (places_rise qs) → IsTrue (lines_rise (lines_for segments holders qs))
rise_lines_for segments holders [] h = refl
rise_lines_for segments holders (q ∷ qs) h =
    let parts = and_parts (behind (seen q) qs) (places_rise qs) h in
    rise_line_if (seen q) (ranges_for segments holders (seen q)) (lines_for segments holders qs)
    (lines_behind_for segments holders (seen q) qs parts.0) (rise_lines_for segments holders qs parts.1)

each_line_if : (place : ℕ → Place) (held : Who → ℕ → Bool) (q : Place) (is : List Interval) (rest : List Line) → IsTrue (rises_from 0 is)
    → ((p : ℕ) → p < 2 ^ 64 → in_ranges p is ≡ (is_same q (place p) && is_told held q p)) → All (IsLine place held) rest → All (IsLine place held) (line_if q is ++ rest)
each_line_if place held q [] rest h k l = l
each_line_if place held q (i ∷ is) rest h k l =
    All-cons (IsLine place held) (record { place = q; ranges = i ∷ is }) rest (record { some = omega arith; apart = h; points = k }) l

each_lines_for : (segments : List Segment) (holders : List Holder) (qs : List declared.Place) → IsTrue (is_cut segments) → IsTrue (list_all (λ h. is_proper h.ranges) holders)
    → All (IsLine (place_at segments) (held_by holders)) (lines_for segments holders qs)
each_lines_for segments holders [] h k = All-nil (IsLine (place_at segments) (held_by holders))
each_lines_for segments holders (q ∷ qs) h k =
    each_line_if (place_at segments) (held_by holders) (seen q) (ranges_for segments holders (seen q)) (lines_for segments holders qs)
    (told_rises segments holders (seen q) h k) (λ p l. told_points segments holders (seen q) p h k l) (each_lines_for segments holders qs h k)

line_here : (a q : Place) (is : List Interval) (rest : List Line) (p : ℕ) → IsTrue (is_same a q) → IsTrue (in_ranges p is) → IsTrue (has_line a (line_if q is ++ rest))
line_here a q [] rest p h k = absurd (false≢true k)
line_here a q (i ∷ is) rest p h k = or_left _ _ h

line_later : (a q : Place) (is : List Interval) (rest : List Line) → IsTrue (has_line a rest) → IsTrue (has_line a (line_if q is ++ rest))
line_later a q [] rest h = h
line_later a q (i ∷ is) rest h = or_right _ _ h

has_lines_for : (segments : List Segment) (holders : List Holder) (qs : List declared.Place) (p : ℕ) → IsTrue (is_cut segments) → IsTrue (list_all (λ h. is_proper h.ranges) holders) → p < 2 ^ 64
    → IsTrue (is_told (held_by holders) (place_at segments p) p) → IsTrue (has (place_at segments p) qs) → IsTrue (has_line (place_at segments p) (lines_for segments holders qs))
has_lines_for segments holders [] p h k l told m = absurd (false≢true m)
has_lines_for segments holders (q ∷ qs) p h k l told m =
    by (or_cases (is_same (place_at segments p) (seen q)) (has (place_at segments p) qs) m) (has_lines_for segments holders qs p h k l told)
  where
    here : (b : Place) → place_at segments p ≡ b → IsTrue (in_ranges p (ranges_for segments holders b))
    here b e =
        told_points segments holders b p h k l
        ∙ and_from (is_same b (place_at segments p)) (is_told (held_by holders) b p)
        (ap (is_same b) e ∙ same_itself b) (ap (λ c. is_told (held_by holders) c p) (sym e) ∙ told)

    by : IsTrue (is_same (place_at segments p) (seen q)) ⊎ IsTrue (has (place_at segments p) qs)
        → (IsTrue (has (place_at segments p) qs) → IsTrue (has_line (place_at segments p) (lines_for segments holders qs)))
        → IsTrue (has_line (place_at segments p) (line_if (seen q) (ranges_for segments holders (seen q)) ++ lines_for segments holders qs))
    by (inl same) rest =
        line_here (place_at segments p) (seen q) (ranges_for segments holders (seen q)) (lines_for segments holders qs) p same
        (here (seen q) (same_is (place_at segments p) (seen q) same))
    by (inr more) rest = line_later (place_at segments p) (seen q) (ranges_for segments holders (seen q)) (lines_for segments holders qs) (rest more)

pub made_lines : (segments : List Segment) (holders : List Holder) → IsTrue (is_cut segments) → IsTrue (list_all (λ h. is_proper h.ranges) holders)
    → AreLines (place_at segments) (held_by holders) (lines_for segments holders (places_from [] segments))
made_lines segments holders h k =
    let c = cut_is segments h in
    let places = places_from [] segments in
    record {
      rise = rise_lines_for segments holders places (rise_places_from [] segments refl);
      each = each_lines_for segments holders places h k;
      every = λ p l told. has_lines_for segments holders places p h k l told (has_place_at segments p c.starts);
    }

some_of : (a : Place) (qs : List declared.Place) → IsTrue (has a qs) → 0 < length qs
some_of a [] h = absurd (false≢true h)
some_of a (q ∷ qs) h = omega arith

-- the ring has a place
pub some_places : (segments : List Segment) → IsTrue (is_cut segments) → 0 < length (places_from [] segments)
some_places segments h = let c = cut_is segments h in some_of (place_at segments 0) (places_from [] segments) (has_place_at segments 0 c.starts)

-- the text that is made is the text of the lines
pub made_text : (segments : List Segment) (holders : List Holder) (text : List ℕ) → IsTrue (is_cut segments)
    → text ≡ flat_map line_text (lines_for segments holders (places_from [] segments))
    → (0 < length (places_from [] segments) → IsTrue (list_all (λ h. is_proper h.ranges) holders))
    → IsText (place_at segments) (held_by holders) text
made_text segments holders text h e k = record {
  lines = lines_for segments holders (places_from [] segments);
  told = made_lines segments holders h (k (some_places segments h));
  spelled = e;
}
