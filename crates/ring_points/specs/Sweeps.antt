-- What a sweep over rising lists keeps.
use Rattle.std.specs.Prelude.{ℕ, Bool, true, not, ◌&&◌, ◌||◌, List, [], ◌∷◌, nat_le}
use Rattle.ring_points.specs.declared.interval.Interval.{Interval}
use Rattle.ring_points.specs.declared.ranges.sweep.Rule.{Rule}
use Rattle.ring_points.specs.declared.ranges.sweep.Rule.TheVariants.{Either, Both}
use Rattle.ring_points.specs.Ranges.{in_ranges, rises_from}

abbrev pub holds : Rule → Bool → Bool → Bool
holds Either x y = x || y
holds Both x y = x && y

-- the point is in one or in both of the first two, and not in the third
abbrev pub is_kept : Rule → List Interval → List Interval → List Interval → ℕ → Bool
is_kept rule first second without p = holds rule (in_ranges p first) (in_ranges p second) && not (in_ranges p without)

-- the intervals rise, and each ends at the point `at` or later
abbrev pub is_ahead : ℕ → List Interval → Bool
is_ahead at [] = true
is_ahead at (i ∷ is) = nat_le at i.hi && rises_from 0 (i ∷ is)
