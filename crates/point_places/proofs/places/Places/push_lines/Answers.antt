use Rattle.std.proofs.Common.{◌++◌, IsTrue, ap, ◌∙◌}
use Rattle.std.specs.Prelude.{reverse}
use Rattle.point_places.specs.Segments.{is_cut, place_at}
use Rattle.point_places.specs.Spots.{moved_place}
use Rattle.point_places.specs.Spots as spots
use Rattle.point_places.specs.Lines.{held_by}
use Rattle.point_places.proofs.Elsewhere.{Agree, text_of_other}
use Rattle.point_places.proofs.Listing.{made_text}
use Rattle.point_places.proofs.places.Places.push_lines.Goals as goal

pub returns-clause-ok : goal.returns-clause-ok
returns-clause-ok c =
    let new = c.deref-3.result.now in
    let cut : IsTrue (is_cut new) = rw c.deref-3.ensures.value c.in_ok-segments.ensures.cut in
    let agree : Agree (place_at new) (spots.place_at c.args.self.now) = λ p l.
    ap (λ s. place_at s p) c.deref-3.ensures.value
    ∙ (c.in_ok-segments.ensures.places p l ∙ (ap (λ s. moved_place s (reverse c.deref-2.result.now) p) c.deref.ensures.value ∙ (ap (λ m. moved_place c.self.inside.segments.items (reverse m) p) c.deref-2.ensures.value ∙ ap (λ s. spots.place_at s p) c.self.view_is))) in
    record {
      text = c.in_ok-text.text.items;
      is_text = text_of_other _ _ (held_by c.args.holders.now) _ agree (made_text new c.args.holders.now c.in_ok-text.text.items cut c.in_ok-text.ensures.text c.in_ok-text.ensures.proper);
      behind = c.in_ok-extend_from_slice.ensures.items ∙ ap (λ t. c.args.into.now.items ++ t) c.deref-4.ensures.value;
    }
