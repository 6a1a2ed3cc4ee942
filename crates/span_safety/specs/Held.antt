-- An instance that owns a point, until when it promises to hold it, and that no other instance holds it.
use Rattle.std.specs.Prelude.{◌≡◌, ℕ, ◌+◌, true, false, List, [], ◌∷◌, Option, Some, None}
use Rattle.fabric_terms.specs.declared.config.FabricConfig.{FabricConfig}
use Rattle.fabric_terms.specs.Places.{IsLive}
use Rattle.fabric_terms.specs.Reports.{told}
use Rattle.fabric_terms.specs.Runs.{Holds, Owned, Run, clocks_of, own_of, reading_of}
use Rattle.fabric_terms.specs.TakeOvers.{was_taken_over}
use Rattle.ring_points.specs.declared.interval.Interval.{Interval}
use Rattle.ring_points.specs.declared.who.Who.{Who}
use Rattle.ring_points.specs.Ranges.{in_ranges}

-- at the end of the run the instance runs, its clock shows this reading, and its last Own has the point and this fence
pub record Owns (run : Run) (x : Who) (p reading : ℕ) (fence : Option ℕ) : Type 0 where
  pub ranges : List Interval
  pub runs : reading_of x (clocks_of run) ≡ Some reading
  pub own : own_of x run ≡ Some (record { ranges = ranges; fence = fence })
  pub has : in_ranges p ranges ≡ true

-- the reading before which it promises to hold what it owns: its fence, or the fence that a first link would give it now
abbrev pub promised : FabricConfig → (reading : ℕ) → Option ℕ → ℕ
promised c reading None = reading + c.lease + c.answer
promised c reading (Some fence) = fence

-- it holds the point, and no other instance does
pub record HoldsAlone (run : Run) (x : Who) (p : ℕ) : Type 0 where
  pub holds : Holds run x p
  pub alone : (y : Who) → Holds run y p → y ≡ x

-- it runs, has not left, and is below its fence, and nobody has told that it took over from it
pub record StaysLive (run : Run) (x : Who) : Type 0 where
  pub owned : Owned
  pub live : IsLive run x owned
  pub kept : was_taken_over x (told run) ≡ false

-- the true time at the end of the run
abbrev pub time_of : Run → ℕ
time_of [] = 0
time_of (m ∷ ms) = m.time
