-- That what is reported committed agrees, and that a book has exactly the committed logs.
use Rattle.std.specs.Prelude.{◌≡◌, ℕ, List, [], ◌∷◌, ◌++◌, Some}
use Rattle.ring_points.specs.declared.unit.Epoch.{Epoch}
use Rattle.ring_points.specs.declared.who.Who.{Who}
use Rattle.fabric_terms.specs.declared.config.FabricConfig.{FabricConfig}
use Rattle.fabric_terms.specs.declared.event.Event.{Event}
use Rattle.fabric_terms.specs.declared.report.Report.{Report}
use Rattle.fabric_terms.specs.declared.report.Report.TheVariants.{Committed}
use Rattle.fabric_terms.specs.Runs as runs
use Rattle.replica_core.specs.declared.entry.Entry.{Entry}
use Rattle.unit_rules.specs.Units.{units}
use Rattle.world_rules.specs.Events.{world_step}
use Rattle.world_rules.specs.Runs.{History, run_of, world_after}
use Rattle.epoch_safety.specs.Laws.{OverValidRuns}
use Rattle.epoch_safety.specs.Lives.{OverValidLives, lives_snapshots}
use Rattle.run_promises.specs.Reports.{HasReported, log_after, log_in}
use Rattle.run_promises.specs.Writes.{CommitsAgree, CommitsAgreeIn}
use Rattle.write_safety.specs.Beside.{running_log}
use Rattle.write_safety.specs.Books.{KeptLog}
use Rattle.write_safety.specs.Fed.{Fed, FedBy, HasCommitted, HasCommittedWith, MayFeed}

-- what is reported committed agrees
abbrev pub CommitsAgreeAlways : Type 0
CommitsAgreeAlways = OverValidRuns CommitsAgree

-- and so over all lives of a cluster that comes back
abbrev pub LivesAgree : Type 0
LivesAgree = OverValidLives (λ c l. CommitsAgreeIn (lives_snapshots c l))

-- a book that is fed with a valid run has exactly its committed logs
abbrev pub FedBooksHaveCommitted : Type 0
FedBooksHaveCommitted = OverValidRuns (λ c h. (book : List KeptLog) → Fed c h book → HasCommitted c h book)

-- Report by report: behind a history and the earlier reports of an event, a book that has what is committed may be fed with
-- the next report, and then has what is committed with it too.
abbrev pub FedReportByReport : FabricConfig → History → Type 0
FedReportByReport c h =
    (now : ℕ × Event) (earlier : History) (e : runs.Entry) (before after : List Report) (r : Report) (book : List KeptLog) → h ≡ now ∷ earlier →
    let s = world_step units c (world_after units c earlier) now.1 in
    let logs : ℕ → List Entry = λ p. log_in s.world e.who.actor p in
    s.entry ≡ Some e → e.reports ≡ before ++ (r ∷ after) → HasCommittedWith c earlier logs before book →
    MayFeed logs r book × ((new : List KeptLog) → FedBy logs r book new → HasCommittedWith c earlier logs (before ++ (r ∷ [])) new)

abbrev pub ReportsFeedBooks : Type 0
ReportsFeedBooks = OverValidRuns FedReportByReport

-- who reports that entries are committed has them in the log of its replica, as long as it runs
abbrev pub LogsStandBeside : Type 0
LogsStandBeside = OverValidRuns (λ c h. (x : Who) (partition : ℕ) (e : Epoch) (last : ℕ) →
    HasReported (run_of units c h) x (Committed partition e last) →
    log_after c h x.actor partition ≡ running_log (world_after units c h) x.actor partition)
