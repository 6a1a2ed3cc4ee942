-- Primaries and epochs, and the safety of a run.
use Rattle.std.specs.Prelude.{◌≡◌, ℕ, true, List, ◌∷◌, Option, Some, None, drop, Contains, if◌then◌else◌, ◌==◌}
use Rattle.ring_points.specs.declared.unit.Epoch.{Epoch}
use Rattle.ring_points.specs.declared.who.Who.{Who}
use Rattle.ring_points.specs.Epochs.{is_older}
use Rattle.fabric_terms.specs.declared.report.Report.{Report}
use Rattle.fabric_terms.specs.declared.report.Report.TheVariants.{IsPrimary, Promised, Accepted}
use Rattle.fabric_terms.specs.Runs.{Run, RingSafe}
use Rattle.fabric_terms.specs.Reports.{told}
use Rattle.fabric_terms.specs.TakeOvers.{TakenAfterLeave}

-- each partition has at most one primary in an epoch
pub record OnePrimary (run : Run) : Type 0 where
  pub one : (partition : ℕ) (epoch : Epoch) (v w : Who) → Contains (told run) (v, IsPrimary partition epoch) → Contains (told run) (w, IsPrimary partition epoch) → v.actor ≡ w.actor

-- the epoch that a report binds its replica to
abbrev pub bound_epoch : ℕ → Report → Option Epoch
bound_epoch partition (Promised p epoch) = if p == partition then Some epoch else None
bound_epoch partition (Accepted p epoch lsn) = if p == partition then Some epoch else None
bound_epoch partition _ = None

-- no replica of a node accepts a write of an older epoch than one that it promised or accepted before
pub record NoOlder (run : Run) : Type 0 where
  pub not_older : (newer partition lsn : ℕ) (epoch earlier : Epoch) (v w : Who) (before : List (Who × Report)) (r : Report)
      → drop newer (told run) ≡ (v, Accepted partition epoch lsn) ∷ before
      → Contains before (w, r) → w.actor ≡ v.actor → bound_epoch partition r ≡ Some earlier
      → is_older epoch earlier ≡ true → ⊥

-- the safety of a run
pub record Safe (run : Run) : Type 0 where
  pub ring : RingSafe run
  pub take_overs : TakenAfterLeave run
  pub primaries : OnePrimary run
  pub epochs : NoOlder run
