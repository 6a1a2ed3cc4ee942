-- What is seen of a run: moments, the newest first. No state of an actor is seen.
use Rattle.std.specs.Prelude.{◌≡◌, ℕ, ◌<◌, true, List, [], ◌∷◌, Option, Some, None, drop, option_map, find, if◌then◌else◌}
use Rattle.ring_points.specs.declared.interval.Interval.{Interval}
use Rattle.ring_points.specs.declared.who.Who.{Who}
use Rattle.ring_points.specs.Ranges.{in_ranges}
use Rattle.ring_points.specs.Whos.{same_who}
use Rattle.fabric_terms.specs.declared.report.Report.{Report}
use Rattle.fabric_terms.specs.declared.report.Report.TheVariants.{Own}

-- the running node instances, rising by node, each with its present reading
abbrev pub Clocks : Type 0
Clocks = List (Who × ℕ)

-- what one actor did: its reading (none for an arbitrator), the numbers of its first and its last frame (0 and 0
-- where it sent none), and its reports in order
pub record Entry : Type 0 where
  pub who : Who
  pub reading : Option ℕ
  pub sent : ℕ × ℕ
  pub reports : List Report

-- what is seen after an event: its line, the true time, the clocks, and what an actor did, if one did something
pub record Moment : Type 0 where
  pub line : ℕ
  pub time : ℕ
  pub clocks : Clocks
  pub entry : Option Entry

-- the moments of a run, the newest first; `drop k` of a run is what it was k moments ago
abbrev pub Run : Type 0
Run = List Moment

-- the clocks at the end of a run
abbrev pub clocks_of : Run → Clocks
clocks_of [] = []
clocks_of (m ∷ ms) = m.clocks

-- the present reading of an instance, if it runs
abbrev pub reading_of : Who → Clocks → Option ℕ
reading_of w clocks = option_map (λ clock. clock.1) (find (λ clock. same_who clock.0 w) clocks)

-- what an Own told: the ranges, and the fence if there is one
pub record Owned : Type 0 where
  pub ranges : List Interval
  pub fence : Option ℕ

-- what a report says is owned, and else what was owned before
abbrev pub owned_after : Report → Option Owned → Option Owned
owned_after (Own ranges fence) before = Some (record { ranges = ranges; fence = fence })
owned_after _ before = before

-- the last Own among these reports, and else the one before
abbrev pub last_own : List Report → Option Owned → Option Owned
last_own [] before = before
last_own (r ∷ rs) before = last_own rs (owned_after r before)

-- the same for what w tells in an entry
abbrev pub own_in : Who → Option Entry → Option Owned → Option Owned
own_in w None before = before
own_in w (Some e) before = if same_who e.who w then last_own e.reports before else before

-- the last Own of w in the run
abbrev pub own_of : Who → Run → Option Owned
own_of w [] = None
own_of w (m ∷ ms) = own_in w m.entry (own_of w ms)

-- the reading is below the fence, or there is none
abbrev pub IsBelow : ℕ → Option ℕ → Type 0
IsBelow reading None = Unit {0}
IsBelow reading (Some fence) = reading < fence

-- at the end of the run the instance w runs, its last Own has the point p, and its reading is below the fence
pub record Holds (run : Run) (w : Who) (p : ℕ) : Type 0 where
  pub reading : ℕ
  pub owned : Owned
  pub runs : reading_of w (clocks_of run) ≡ Some reading
  pub own : own_of w run ≡ Some owned
  pub has : in_ranges p owned.ranges ≡ true
  pub below : IsBelow reading owned.fence

-- at no moment do two instances hold one point
pub record RingSafe (run : Run) : Type 0 where
  pub one_holder : (ago p : ℕ) (v w : Who) → Holds (drop ago run) v p → Holds (drop ago run) w p → v ≡ w
