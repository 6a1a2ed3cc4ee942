-- That what was reported committed stays, and that all reports of it agree.
use Rattle.std.specs.Prelude.{◌≡◌, ℕ, ◌≤◌, true, length, take}
use Rattle.ring_points.specs.declared.unit.Epoch.{Epoch}
use Rattle.ring_points.specs.declared.who.Who.{Who}
use Rattle.ring_points.specs.Epochs.{is_older}
use Rattle.fabric_terms.specs.declared.config.FabricConfig.{FabricConfig}
use Rattle.fabric_terms.specs.declared.report.Report.TheVariants.{IsPrimary, Committed}
use Rattle.world_rules.specs.Runs.{History}
use Rattle.run_promises.specs.Reports.{HasReported}
use Rattle.run_promises.specs.Snapshots.{Snapshots, snapshots_of}

-- What was reported committed stands in the log of each primary of a later epoch of the same data loss number, as it stood
-- at the report, whichever of the two reports is the earlier one.
abbrev pub WritesKeptIn : Snapshots → Type 0
WritesKeptIn past =
    (i j partition last : ℕ) (e later : Epoch) (x y : Who) →
    HasReported (past i).run x (Committed partition e last) →
    HasReported (past j).run y (IsPrimary partition later) →
    is_older e later ≡ true → e.data_loss ≡ later.data_loss →
    let log = (past j).log y.actor partition in
    (last ≤ length log) × (take last log ≡ take last ((past i).log x.actor partition))

-- Of two reports Committed of one partition and data loss number, in any epochs, by any nodes, in any order, the one of the
-- smaller number says no other entries than the other: each node has as many as it says, and they are the same so far.
abbrev pub CommitsAgreeIn : Snapshots → Type 0
CommitsAgreeIn past =
    (i j partition last further : ℕ) (e f : Epoch) (x y : Who) →
    HasReported (past i).run x (Committed partition e last) →
    HasReported (past j).run y (Committed partition f further) →
    e.data_loss ≡ f.data_loss → last ≤ further →
    let log = (past i).log x.actor partition in
    let other = (past j).log y.actor partition in
    (last ≤ length log) × (further ≤ length other) × (take last other ≡ take last log)

-- Of the run of a schedule.

abbrev pub WritesKept : FabricConfig → History → Type 0
WritesKept c h = WritesKeptIn (snapshots_of c h)

abbrev pub CommitsAgree : FabricConfig → History → Type 0
CommitsAgree c h = CommitsAgreeIn (snapshots_of c h)
