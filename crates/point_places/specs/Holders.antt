-- Who holds a point, by what is seen of a run.
use Rattle.std.specs.Prelude.{ℕ, Bool, true, false, List, [], ◌∷◌, Option, Some, None, count_by, filter, map, nat_lt}
use Rattle.ring_points.specs.declared.interval.Interval.{Interval}
use Rattle.ring_points.specs.declared.who.Who.{Who}
use Rattle.ring_points.specs.Ranges.{in_ranges}
use Rattle.fabric_terms.specs.Runs.{Run, Owned, clocks_of, reading_of, own_of}
use Rattle.point_places.specs.declared.unheld.Holder.{Holder}

-- the reading is below the fence, or there is none
abbrev pub is_below : ℕ → Option ℕ → Bool
is_below reading None = true
is_below reading (Some fence) = nat_lt reading fence

-- what is held at this reading by who told this last
abbrev pub held_ranges : Option ℕ → Option Owned → List Interval
held_ranges None owned = []
held_ranges (Some reading) None = []
held_ranges (Some reading) (Some o) = elim (is_below reading o.fence) [ true ↦ o.ranges | false ↦ [] ]

-- what w holds at the end of the run
abbrev pub held_by : Run → Who → List Interval
held_by run w = held_ranges (reading_of w (clocks_of run)) (own_of w run)

-- w holds the point at the end of the run
abbrev pub holds_in : Run → Who → ℕ → Bool
holds_in run w p = in_ranges p (held_by run w)

abbrev pub is_some_range : List Interval → Bool
is_some_range [] = false
is_some_range (i ∷ is) = true

-- how many running instances hold a point at the end of the run
abbrev pub holders_in : Run → ℕ
holders_in run = count_by (λ clock. is_some_range (held_by run clock.0)) (clocks_of run)

-- w with what it holds at the end of the run
abbrev pub holder_of : Run → Who → Holder
holder_of run w = record { who = w; ranges = held_by run w }

-- the running instances that hold a point at the end of the run, in the order of their clocks, each with what it holds
abbrev pub holders_of : Run → List Holder
holders_of run = filter (λ holder. is_some_range holder.ranges) (map (λ clock. holder_of run clock.0) (clocks_of run))
