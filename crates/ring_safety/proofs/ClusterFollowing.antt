-- The schedule goes with the cluster, one thing after another.
use Rattle.std.proofs.Common.{ℕ, Bool, List, [], ◌∷◌}
use Rattle.fabric_terms.specs.declared.config.FabricConfig.{FabricConfig}
use Rattle.world_rules.specs.Runs.{History, world_after}
use Rattle.world_rules.specs.Schedules.{Valid}
use Rattle.world_rules.specs.Uppers.{Upper}
use Rattle.ring_safety.specs.ClusterEvents.{Cluster, Comes, Begins, Stands, Turns, Bids, Hears, Fires, MayArrive, IsCluster, cluster_after, comes, events_for, events_of, on_lines}
use Rattle.ring_safety.proofs.ClusterAllowed.{fire_may, bid_may, give_may, start_may, stand_may}
use Rattle.ring_safety.proofs.ClusterMirrors.{Mirrors, mirrors_first, tick_mirrors, tick_may, fire_mirrors, bid_mirrors, give_mirrors, begin_mirrors, stand_mirrors}

-- the world mirrors the cluster, and the schedule is valid
pub record Follows (a : Upper) (is_frame : List ℕ → Bool) (c : FabricConfig) (p : Cluster a) (h : History) : Type 0 where
  pub mirrors : Mirrors {a = a} p (world_after a c h)
  pub valid : Valid a is_frame c h

followed : (a : Upper) (is_frame : List ℕ → Bool) (c : FabricConfig) (p : Cluster a) (h : History) (x : Comes) → Follows a is_frame c p h → MayArrive a c p x →
    Follows a is_frame c (comes a c p x) (on_lines (events_for {a = a} p x) h)
followed a is_frame c p h (Begins n u) f k = record {
  mirrors = begin_mirrors c p (world_after a c h) n u f.mirrors k.2;
  valid = ((f.valid, tick_may is_frame c p (world_after a c h) u f.mirrors k.2), start_may is_frame c (record p { time = u }) _ n u (tick_mirrors c p (world_after a c h) u f.mirrors k.2) k.0 k.1);
}
followed a is_frame c p h (Stands n) f k = record {
  mirrors = stand_mirrors c p (world_after a c h) n f.mirrors;
  valid = (f.valid, stand_may is_frame c p (world_after a c h) n f.mirrors k.0 k.1);
}
followed a is_frame c p h (Turns u) f k = record {
  mirrors = tick_mirrors c p (world_after a c h) u f.mirrors k;
  valid = (f.valid, tick_may is_frame c p (world_after a c h) u f.mirrors k);
}
followed a is_frame c p h (Bids n d) f k = record {
  mirrors = bid_mirrors c p (world_after a c h) n d k.0 f.mirrors k.1.0;
  valid = (f.valid, bid_may is_frame c p (world_after a c h) n d k.0 f.mirrors k.1.0 k.1.1);
}
followed a is_frame c p h (Hears n) f k = record {
  mirrors = give_mirrors c p (world_after a c h) n k.0 f.mirrors k.1.2 k.1.3;
  valid = (f.valid, give_may is_frame c p (world_after a c h) n f.mirrors k.1.0 k.1.1);
}
followed a is_frame c p h (Fires n) f k = record {
  mirrors = fire_mirrors c p (world_after a c h) n k.0 f.mirrors k.1;
  valid = (f.valid, fire_may is_frame c p (world_after a c h) n k.0 f.mirrors k.1);
}

pub all_followed : (a : Upper) (is_frame : List ℕ → Bool) (c : FabricConfig) (xs : List Comes) → IsCluster a c xs →
    Follows a is_frame c (cluster_after a c xs) (events_of a c xs)
all_followed a is_frame c [] k = record { mirrors = mirrors_first a; valid = tt }
all_followed a is_frame c (x ∷ xs) k = followed a is_frame c (cluster_after a c xs) (events_of a c xs) x (all_followed a is_frame c xs k.0) k.1
