-- That what a primary reports committed, and what a node may answer by, covers all that was reported committed before.
use Rattle.std.specs.Prelude.{◌≡◌, ℕ, ◌≤◌, false, Some, Ok, drop, take}
use Rattle.fabric_lemmas.specs.Maps.{at}
use Rattle.ring_points.specs.declared.unit.Epoch.{Epoch}
use Rattle.ring_points.specs.declared.who.Who.{Who}
use Rattle.ring_points.specs.Epochs.{is_older}
use Rattle.fabric_terms.specs.declared.config.FabricConfig.{FabricConfig}
use Rattle.fabric_terms.specs.declared.report.Report.TheVariants.{Committed}
use Rattle.join_phases.specs.Phases.{is_left}
use Rattle.replica_core.specs.Replicas.{Replica}
use Rattle.replica_records.specs.ReplicaStates.{state_at}
use Rattle.unit_rules.specs.Answers.{ready}
use Rattle.unit_rules.specs.Progress.{progress_of}
use Rattle.unit_rules.specs.Units.{units}
use Rattle.world_rules.specs.Runs.{History, run_of, world_after}
use Rattle.world_rules.specs.Worlds.{Running}
use Rattle.run_promises.specs.Reports.{HasReported, log_after}
use Rattle.run_promises.specs.Snapshots.{Snapshots, snapshots_of}

-- What a primary reports committed begins with all that was reported committed before, in epochs up to its own of the same
-- data loss number, by whichever node and instance.
abbrev pub AnswersCovered : FabricConfig → History → Type 0
AnswersCovered c h =
    (i j partition last committed : ℕ) (e own : Epoch) (x y : Who) → j ≤ i →
    HasReported (run_of units c (drop i h)) x (Committed partition e last) →
    HasReported (run_of units c (drop j h)) y (Committed partition own committed) →
    is_older own e ≡ false → e.data_loss ≡ own.data_loss →
    (last ≤ committed) ×
    (take last (log_after c (drop j h) y.actor partition) ≡ take last (log_after c (drop i h) x.actor partition))

-- So many entries of this replica's log begin with all that was reported committed of the partition before, in epochs up to
-- the replica's own of the same data loss number, by whichever node and instance.
abbrev pub CoverCommittedIn : Snapshots → (partition count : ℕ) → Replica → Type 0
CoverCommittedIn past partition count s =
    (i last : ℕ) (e : Epoch) (x : Who) →
    HasReported (past i).run x (Committed partition e last) →
    is_older s.at e ≡ false → e.data_loss ≡ s.at.data_loss →
    (last ≤ count) × (take last (take count s.log) ≡ take last ((past i).log x.actor partition))

-- the same of what the run of a schedule reported
abbrev pub CoverCommitted : FabricConfig → History → (partition count : ℕ) → Replica → Type 0
CoverCommitted c h partition count s = CoverCommittedIn (snapshots_of c h) partition count s

-- Whoever may answer about names at some moment answers by so many entries of its log, and they cover what was committed.
abbrev pub NamesCovered : FabricConfig → History → Type 0
NamesCovered c h =
    (node partition count : ℕ) (s : Running units) →
    at node (world_after units c h).nodes ≡ Some s → is_left s.node.ring.phase ≡ false →
    let state = state_at partition s.node.above in
    ready (progress_of state) ≡ Ok count → CoverCommitted c h partition count state.replica
