-- A text depends on the places of the ring's points alone.
use Rattle.std.proofs.Common.{◌≡◌, ℕ, ◌<◌, ◌^◌, Bool, ◌&&◌, List, IsTrue, ap, subst, ◌∙◌}
use Rattle.ring_points.specs.declared.who.Who.{Who}
use Rattle.fabric_terms.specs.Places.{Place}
use Rattle.point_places.specs.Order.{is_same}
use Rattle.point_places.specs.Lines.{is_told, Line, IsLine, has_line, IsText}

-- two ways to say where the points of the ring are
abbrev pub Agree : (ℕ → Place) → (ℕ → Place) → Type 0
Agree place other = (p : ℕ) → p < 2 ^ 64 → place p ≡ other p

line_of : (place other : ℕ → Place) (held : Who → ℕ → Bool) (line : Line) → Agree place other → IsLine place held line → IsLine other held line
line_of place other held line agree h = record {
  some = h.some;
  apart = h.apart;
  points = λ p l. h.points p l ∙ ap (λ q. is_same line.place q && is_told held line.place p) (agree p l);
}

pub text_of_other : (place other : ℕ → Place) (held : Who → ℕ → Bool) (text : List ℕ) → Agree place other → IsText place held text → IsText other held text
text_of_other place other held text agree h = record {
  lines = h.lines;
  told = record {
    rise = h.told.rise;
    each = λ k d lt. line_of place other held _ agree (h.told.each k d lt);
    every = λ p l told.
        let same = agree p l in
        let P : Place → Type 0 = λ q. IsTrue (has_line q h.lines) in
        subst P same (h.told.every p l (rw same told));
  };
  spelled = h.spelled;
}
