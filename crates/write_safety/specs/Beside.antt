-- The log that a running node has of a partition.
use Rattle.std.specs.Prelude.{ℕ, List, [], Option, None, Some}
use Rattle.fabric_lemmas.specs.Maps.{at}
use Rattle.replica_core.specs.declared.entry.Entry.{Entry}
use Rattle.replica_records.specs.ReplicaStates.{state_at}
use Rattle.unit_rules.specs.Units.{units}
use Rattle.world_rules.specs.Worlds.{World, Running}

-- nothing where it does not run, or has no replica of it
abbrev pub log_of_running : ℕ → Option (Running units) → List Entry
log_of_running partition None = []
log_of_running partition (Some s) = (state_at partition s.node.above).replica.log

abbrev pub running_log : World units → (node partition : ℕ) → List Entry
running_log w node partition = log_of_running partition (at node w.nodes)
