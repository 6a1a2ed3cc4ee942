-- The lines of places by the code are those of the run.
use Rattle.std.proofs.Common.{◌≡◌, ℕ, ◌<◌, ◌^◌, Bool, List, sym, subst, ◌∙◌}
use Rattle.std.specs.Prelude.{◌&&◌, IsTrue}
use Rattle.fabric_terms.specs.Places.{Place}
use Rattle.point_places.specs.Lines.{AreLines, IsAppended, IsLine, Line, has_line, is_told}
use Rattle.point_places.specs.Order.{is_same}
use Rattle.ring_points.specs.declared.who.Who.{Who}

module _ (place other : ℕ → Place) (held holds : Who → ℕ → Bool) (same : (p : ℕ) → p < 2 ^ 64 → place p ≡ other p) (alike : (w : Who) (p : ℕ) → held w p ≡ holds w p) where
  all_alike : held ≡ holds
  all_alike = λ i w p. alike w p i

  line_too : (line : Line) → IsLine place held line → IsLine other holds line
  line_too line l = record {
    some = l.some;
    apart = l.apart;
    points = λ p lt. l.points p lt ∙ (λ i. is_same line.place (same p lt i) && is_told (all_alike i) line.place p);
  }

  lines_too : (lines : List Line) → AreLines place held lines → AreLines other holds lines
  lines_too lines a = record {
    rise = a.rise;
    each = λ i d lt. line_too _ (a.each i d lt);
    every = λ p lt told.
        subst (λ (q : Place). IsTrue (has_line q lines)) (same p lt)
        (a.every p lt (subst (λ (x : Place × (Who → ℕ → Bool)). IsTrue (is_told x.1 x.0 p)) (λ i. (sym (same p lt) i, sym all_alike i)) told));
  }

  -- what is appended for these places and holders is what is appended for those
  pub appended_too : (before after : List ℕ) → IsAppended place held before after → IsAppended other holds before after
  appended_too before after t = record {
    text = t.text;
    is_text = record { lines = t.is_text.lines; told = lines_too t.is_text.lines t.is_text.told; spelled = t.is_text.spelled };
    behind = t.behind;
  }
