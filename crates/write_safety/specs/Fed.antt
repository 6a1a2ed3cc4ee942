-- A book that is fed with the reports Committed of a run, in their order.
use Rattle.std.specs.Prelude.{◌≡◌, ℕ, List, [], ◌∷◌, ◌++◌, Option, Some, None, length, take, ◌≤◌}
use Rattle.fabric_terms.specs.declared.config.FabricConfig.{FabricConfig}
use Rattle.fabric_terms.specs.declared.report.Report.{Report}
use Rattle.fabric_terms.specs.declared.report.Report.TheVariants.{Committed}
use Rattle.fabric_terms.specs.Runs as runs
use Rattle.replica_core.specs.declared.entry.Entry.{Entry}
use Rattle.unit_rules.specs.Units.{units}
use Rattle.world_rules.specs.Events.{world_step}
use Rattle.world_rules.specs.Runs.{History, world_after}
use Rattle.world_rules.specs.Worlds.{World, Stepped}
use Rattle.run_promises.specs.Reports.{log_in}
use Rattle.write_safety.specs.Books.{Agree, Commits, KeptLog, entries_of}
use Rattle.write_safety.specs.Committed.{commits_among, commits_of, committed_log}
use Rattle.write_safety.specs.Greatest.{longest}

-- the book has exactly the committed logs of the history
abbrev pub HasCommitted : FabricConfig → History → List KeptLog → Type 0
HasCommitted c h book = (partition data_loss : ℕ) → entries_of partition data_loss book ≡ committed_log c h partition data_loss

-- and those of these reports of a node behind the history, with its logs by partition
abbrev pub HasCommittedWith : FabricConfig → History → (ℕ → List Entry) → List Report → List KeptLog → Type 0
HasCommittedWith c h logs reports book =
    (partition data_loss : ℕ) →
    entries_of partition data_loss book
    ≡ longest (commits_of c h partition data_loss ++ commits_among partition data_loss (logs partition) reports)

-- the book becomes this by a report: a commit where it is Committed, and else nothing
abbrev pub FedBy : (ℕ → List Entry) → Report → List KeptLog → List KeptLog → Type 0
FedBy logs (Committed partition epoch last) old new = Commits partition epoch.data_loss (take last (logs partition)) old new
FedBy logs report old new = new ≡ old

-- what a commit asks of a report: entries that its node has, and that agree with what is kept
abbrev pub MayFeed : (ℕ → List Entry) → Report → List KeptLog → Type 0
MayFeed logs (Committed partition epoch last) book =
    (last ≤ length (logs partition)) × Agree (take last (logs partition)) (entries_of partition epoch.data_loss book)
MayFeed logs report book = Unit {0}

-- by these reports, in their order
abbrev pub FedByAll : (ℕ → List Entry) → List Report → List KeptLog → List KeptLog → Type 0
FedByAll logs [] old new = new ≡ old
FedByAll logs (r ∷ rs) old new = (between : List KeptLog) × FedBy logs r old between × FedByAll logs rs between new

-- by what an actor did, with the logs that its records amount to then
abbrev pub FedIn : World units → Option runs.Entry → List KeptLog → List KeptLog → Type 0
FedIn w None old new = new ≡ old
FedIn w (Some e) old new = FedByAll (λ p. log_in w e.who.actor p) e.reports old new

abbrev pub FedAt : Stepped units → List KeptLog → List KeptLog → Type 0
FedAt s old new = FedIn s.world s.entry old new

-- an empty book becomes this by the whole history
abbrev pub Fed : FabricConfig → History → List KeptLog → Type 0
Fed c [] book = book ≡ []
Fed c (e ∷ es) book = (before : List KeptLog) × Fed c es before × FedAt (world_step units c (world_after units c es) e.1) before book
