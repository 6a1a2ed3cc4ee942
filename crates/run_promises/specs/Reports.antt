-- What nodes report of partitions in a run, and the logs beside their reports.
use Rattle.std.specs.Prelude.{◌≡◌, ℕ, List, [], ◌∷◌, Option, None, Some, Contains}
use Rattle.ring_points.specs.declared.who.Who.{Who}
use Rattle.fabric_terms.specs.declared.config.FabricConfig.{FabricConfig}
use Rattle.fabric_terms.specs.declared.report.Report.{Report}
use Rattle.fabric_terms.specs.Runs as runs
use Rattle.fabric_terms.specs.Runs.{Run}
use Rattle.replica_core.specs.declared.entry.Entry.{Entry}
use Rattle.unit_rules.specs.Starts.{replica_of, replicas_after_all}
use Rattle.unit_rules.specs.Units.{units}
use Rattle.world_rules.specs.Runs.{History, world_after}
use Rattle.world_rules.specs.Worlds.{World, kept_of}

-- what x reports in an entry
abbrev pub IsAmong : Option runs.Entry → Who → Report → Type 0
IsAmong None x r = ⊥
IsAmong (Some e) x r = (e.who ≡ x) × Contains e.reports r

-- x reports r in the last moment of the run
abbrev pub HasReported : Run → Who → Report → Type 0
HasReported [] x r = ⊥
HasReported (m ∷ ms) x r = IsAmong m.entry x r

-- the node's log of the partition: what its synced records amount to
abbrev pub log_in : World units → (node partition : ℕ) → List Entry
log_in w node partition = (replica_of partition (replicas_after_all [] (kept_of w node))).log

-- the same after a history
abbrev pub log_after : FabricConfig → History → (node partition : ℕ) → List Entry
log_after c h node partition = log_in (world_after units c h) node partition
