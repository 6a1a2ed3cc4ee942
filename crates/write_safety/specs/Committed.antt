-- The committed logs of a run.
use Rattle.std.specs.Prelude.{ℕ, ◌==◌, ◌&&◌, List, [], ◌∷◌, ◌++◌, Option, Some, None, if◌then◌else◌}
use Rattle.std.specs.List.{flat_map}
use Rattle.fabric_terms.specs.declared.config.FabricConfig.{FabricConfig}
use Rattle.fabric_terms.specs.declared.report.Report.{Report}
use Rattle.fabric_terms.specs.declared.report.Report.TheVariants.{Committed}
use Rattle.fabric_terms.specs.Runs as runs
use Rattle.replica_core.specs.declared.entry.Entry.{Entry}
use Rattle.unit_rules.specs.Units.{units}
use Rattle.world_rules.specs.Events.{world_step}
use Rattle.world_rules.specs.Runs.{History, world_after}
use Rattle.world_rules.specs.Worlds.{World, Stepped}
use Rattle.run_promises.specs.Reports.{log_in}
use Rattle.write_safety.specs.Greatest.{Commit, longest}

-- it is of this partition and data loss number; the log is that of the node which reports
abbrev pub commit_of : ℕ → ℕ → List Entry → Report → List Commit
commit_of partition data_loss log (Committed p e last) =
    if p == partition && e.data_loss == data_loss then record { last = last; log = log } ∷ [] else []
commit_of partition data_loss log _ = []

abbrev pub commits_among : ℕ → ℕ → List Entry → List Report → List Commit
commits_among partition data_loss log reports = flat_map (commit_of partition data_loss log) reports

-- in what an actor did, with the log that its records amount to then
abbrev pub commits_in : ℕ → ℕ → World units → Option runs.Entry → List Commit
commits_in partition data_loss w None = []
commits_in partition data_loss w (Some e) = commits_among partition data_loss (log_in w e.who.actor partition) e.reports

abbrev pub commits_at : ℕ → ℕ → Stepped units → List Commit
commits_at partition data_loss s = commits_in partition data_loss s.world s.entry

-- all of a history, the oldest first
abbrev pub commits_of : FabricConfig → History → ℕ → ℕ → List Commit
commits_of c [] partition data_loss = []
commits_of c (e ∷ es) partition data_loss =
    commits_of c es partition data_loss ++ commits_at partition data_loss (world_step units c (world_after units c es) e.1)

-- the committed log of a partition under a data loss number
abbrev pub committed_log : FabricConfig → History → ℕ → ℕ → List Entry
committed_log c h partition data_loss = longest (commits_of c h partition data_loss)
