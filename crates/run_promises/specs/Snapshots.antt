-- What is known of a run at a moment, whoever runs it: what was reported up to it, and the logs of the nodes then.
use Rattle.std.specs.Prelude.{ℕ, List, drop}
use Rattle.fabric_terms.specs.declared.config.FabricConfig.{FabricConfig}
use Rattle.fabric_terms.specs.Runs.{Run}
use Rattle.replica_core.specs.declared.entry.Entry.{Entry}
use Rattle.unit_rules.specs.Units.{units}
use Rattle.world_rules.specs.Runs.{History, run_of}
use Rattle.run_promises.specs.Reports.{log_after}

-- the run up to a moment, and each node's log of each partition then
pub record Snapshot : Type 0 where
  pub run : Run
  pub log : (node partition : ℕ) → List Entry

-- a snapshot at each moment of a run, by how many moments ago it was taken
abbrev pub Snapshots : Type 0
Snapshots = ℕ → Snapshot

-- those of the run of a schedule
abbrev pub snapshots_of : FabricConfig → History → Snapshots
snapshots_of c h ago = record { run = run_of units c (drop ago h); log = log_after c (drop ago h) }
