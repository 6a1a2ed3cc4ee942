-- The replicas of running nodes.
use Rattle.std.specs.Prelude.{ℕ, Option, Some, None}
use Rattle.fabric_lemmas.specs.Maps.{at}
use Rattle.replica_core.specs.Replicas.{Replica}
use Rattle.unit_rules.specs.Fabric.{fabric}
use Rattle.unit_replica.specs.Tables.{replica_at}
use Rattle.world_rules.specs.Worlds.{World as RuledWorld, Running as RuledRunning}

abbrev pub replica_of_running : ℕ → Option (RuledRunning fabric) → Option Replica
replica_of_running partition None = None
replica_of_running partition (Some s) = replica_at partition s.node.above.states

-- the node's replica of the partition: none where the node does not run, or has none
abbrev pub replica_in : RuledWorld fabric → (node partition : ℕ) → Option Replica
replica_in w node partition = replica_of_running partition (at node w.nodes)
