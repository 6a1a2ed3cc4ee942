-- What a book is fed with, from the replicas of running nodes.
use Rattle.std.specs.Prelude.{ℕ, List, [], ◌∷◌}
use Rattle.fabric_terms.specs.declared.config.FabricConfig.{FabricConfig}
use Rattle.fabric_terms.specs.declared.report.Report.{Report}
use Rattle.replica_core.specs.declared.entry.Entry.{Entry}
use Rattle.unit_rules.specs.Ruled.{ruled}
use Rattle.world_rules.specs.Runs.{History}
use Rattle.write_safety.specs.Beside.{running_log}
use Rattle.write_safety.specs.Books.{KeptLog}
use Rattle.write_safety.specs.Fed.{FedBy, MayFeed}

-- the logs of a node behind a history, by partition; nothing where it does not run
abbrev pub running_logs : FabricConfig → History → ℕ → ℕ → List Entry
running_logs c h node partition = running_log (ruled c h) node partition

-- each of these reports may be fed once those before it were
abbrev pub MayFeedAll : (ℕ → List Entry) → List Report → List KeptLog → Type 0
MayFeedAll logs [] book = Unit {0}
MayFeedAll logs (r ∷ rs) book = MayFeed logs r book × ((new : List KeptLog) → FedBy logs r book new → MayFeedAll logs rs new)
