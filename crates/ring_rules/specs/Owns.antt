-- What a node owns and holds, and when it is told.
use Rattle.std.specs.Prelude.{ℕ, Bool, true, false, not, ◌&&◌, ◌||◌, List, [], ◌∷◌, Option, Some, None, ◌==◌}
use Rattle.ring_points.specs.declared.interval.Interval.{Interval}
use Rattle.ring_points.specs.Ranges.{in_ranges}
use Rattle.fabric_terms.specs.declared.report.Report.{Report}
use Rattle.fabric_terms.specs.declared.report.Report.TheVariants.{Own}
use Rattle.join_phases.specs.Phases.{is_left}
use Rattle.ring_rules.specs.Rings.{Settings, Ring}
use Rattle.ring_rules.specs.Slots.{fence_of, is_past}

-- the node holds the point at this reading
abbrev pub holds_point : Settings → ℕ → ℕ → Ring → Bool
holds_point c now p r = in_ranges p r.token.ranges && not (is_past now (fence_of c.answer r.slots))

-- What is told last in a step: what is owned, where the ranges or the fence differ, and where the node has left.

abbrev pub own_of_ring : Settings → Ring → Report
own_of_ring c r = Own r.token.ranges (fence_of c.answer r.slots)

abbrev pub same_ranges : List Interval → List Interval → Bool
same_ranges [] [] = true
same_ranges [] (j ∷ js) = false
same_ranges (i ∷ is) [] = false
same_ranges (i ∷ is) (j ∷ js) = i.lo == j.lo && i.hi == j.hi && same_ranges is js

abbrev pub same_fence : Option ℕ → Option ℕ → Bool
same_fence None None = true
same_fence None (Some n) = false
same_fence (Some m) None = false
same_fence (Some m) (Some n) = m == n

-- the ranges and the fence are the same, and the node has not left between
abbrev pub is_same_own : Settings → Ring → Ring → Bool
is_same_own c old new =
    same_ranges old.token.ranges new.token.ranges && same_fence (fence_of c.answer old.slots) (fence_of c.answer new.slots) && (is_left old.phase || not (is_left new.phase))

abbrev pub own_unless : Settings → Ring → Bool → List Report
own_unless c r true = []
own_unless c r false = own_of_ring c r ∷ []

abbrev pub own_after : Settings → Ring → Ring → List Report
own_after c old new = own_unless c new (is_same_own c old new)
