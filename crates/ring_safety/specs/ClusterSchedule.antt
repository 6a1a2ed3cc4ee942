-- A cluster in one process is a schedule.
use Rattle.std.specs.Prelude.{◌≡◌, ℕ, Bool, List, map}
use Rattle.fabric_terms.specs.declared.config.FabricConfig.{FabricConfig}
use Rattle.fabric_terms.specs.Runs.{RingSafe}
use Rattle.fabric_terms.specs.Sound.{IsSound}
use Rattle.fabric_terms.specs.TakeOvers.{TakenAfterLeave}
use Rattle.world_rules.specs.Runs.{world_after, run_of}
use Rattle.world_rules.specs.Schedules.{Valid}
use Rattle.world_rules.specs.Uppers.{Upper}
use Rattle.ring_safety.specs.ClusterMoments.{moments}
use Rattle.ring_safety.specs.ClusterSteps.{steps_of}
use Rattle.ring_safety.specs.ClusterEvents.{Comes, IsCluster, cluster_after, events_of}

-- Of what comes to a cluster there is a valid schedule that leaves each actor the same, with the clock's reading as the
-- true time and as the reading of every running node; and its run is safe.
pub record IsSchedule (a : Upper) (c : FabricConfig) (xs : List Comes) : Type 0 where
  pub valid : (is_frame : List ℕ → Bool) → Valid a is_frame c (events_of a c xs)
  pub time : (world_after a c (events_of a c xs)).time ≡ (cluster_after a c xs).time
  pub nodes : map (λ n. (n.0, n.1.node)) (world_after a c (events_of a c xs)).nodes ≡ (cluster_after a c xs).nodes
  pub arbiters : (world_after a c (events_of a c xs)).arbiters ≡ (cluster_after a c xs).arbiters
  pub frames : (world_after a c (events_of a c xs)).frames ≡ (cluster_after a c xs).frames
  pub kept : (world_after a c (events_of a c xs)).kept ≡ (cluster_after a c xs).kept
  -- its moments of steps are the cluster's steps, by the cluster's clock
  pub steps : steps_of (run_of a c (events_of a c xs)) ≡ moments a c xs
  pub ring : RingSafe (run_of a c (events_of a c xs))
  pub taken : TakenAfterLeave (run_of a c (events_of a c xs))
  -- the same of the moments of steps alone
  pub steps_ring : RingSafe (steps_of (run_of a c (events_of a c xs)))
  pub steps_taken : TakenAfterLeave (steps_of (run_of a c (events_of a c xs)))

abbrev pub ClusterIsSchedule : Upper → Type 0
ClusterIsSchedule a = (c : FabricConfig) (xs : List Comes) → IsSound c → IsCluster a c xs → IsSchedule a c xs
