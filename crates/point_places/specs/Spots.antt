-- Where the points are: the ring in segments, and the moves that came after.
use Rattle.std.specs.Prelude.{ℕ, List, [], ◌∷◌}
use Rattle.fabric_terms.specs.Places.{Place, place_after}
use Rattle.fabric_terms.specs.Reports.{Told}
use Rattle.point_places.specs.declared.segments.Segment.{Segment}
use Rattle.point_places.specs.Segments as segments

-- the segments, the moves that they do not have yet, the newest first, and for how many more there is room
pub record Spots : Type 0 where
  pub segments : List Segment
  pub moves : Told
  pub room : ℕ

-- the place of a point after these moves
abbrev pub moved_place : List Segment → Told → ℕ → Place
moved_place cut [] p = segments.place_at cut p
moved_place cut (told ∷ before) p = place_after told.0 told.1 p (moved_place cut before p)

-- the place of a point
abbrev pub place_at : Spots → ℕ → Place
place_at s p = moved_place s.segments s.moves p
