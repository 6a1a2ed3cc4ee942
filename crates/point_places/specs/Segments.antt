-- The ring in segments. A segment goes on to where the next begins, and all its points have one place.
use Rattle.std.specs.Prelude.{ℕ, ◌+◌, ◌^◌, Bool, true, false, not, ◌&&◌, ◌==◌, List, [], ◌∷◌, Option, Some, None, nat_le, nat_lt, if◌then◌else◌}
use Rattle.fabric_terms.specs.Places.{Place}
use Rattle.point_places.specs.declared.place.Place as declared
use Rattle.point_places.specs.declared.place.Place.TheVariants as kept
use Rattle.point_places.specs.declared.segments.Segment.{Segment}
use Rattle.point_places.specs.Order.{seen, is_same}

-- the place of a point is that of the last segment that begins no later; `before` is that of the points before the first
abbrev pub spot_in : declared.Place → List Segment → ℕ → declared.Place
spot_in before [] p = before
spot_in before (s ∷ ss) p = spot_in (if nat_le s.lo p then s.place else before) ss p

-- what stands before the first segment, where there is nothing to be
abbrev pub nowhere : declared.Place
nowhere = kept.With (record { actor = 0; instance = 0 })

-- the place of a point
abbrev pub place_at : List Segment → ℕ → Place
place_at segments p = seen (spot_in nowhere segments p)

-- the segments begin from low on, one after another, at points of the ring
abbrev pub rise_from : ℕ → List Segment → Bool
rise_from low [] = true
rise_from low (s ∷ ss) = nat_le low s.lo && nat_lt s.lo (2 ^ 64) && rise_from (s.lo + 1) ss

-- the place is that of the segment before
abbrev pub repeats : Option declared.Place → declared.Place → Bool
repeats None place = false
repeats (Some before) place = is_same (seen before) (seen place)

-- no two neighbours have the same place
abbrev pub changes_after : Option declared.Place → List Segment → Bool
changes_after before [] = true
changes_after before (s ∷ ss) = not (repeats before s.place) && changes_after (Some s.place) ss

abbrev pub starts_at_0 : List Segment → Bool
starts_at_0 [] = false
starts_at_0 (s ∷ ss) = s.lo == 0

-- the whole ring, in as few segments as there can be
abbrev pub is_cut : List Segment → Bool
is_cut segments = starts_at_0 segments && rise_from 0 segments && changes_after None segments
