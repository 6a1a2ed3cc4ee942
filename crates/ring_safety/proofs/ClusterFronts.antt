-- What came to a cluster up to some moment is a schedule up to some event, with the same records kept then.
use Rattle.std.proofs.Common.{◌≡◌, ℕ, zero, suc, false, List, [], ◌∷◌, drop, refl}
use Rattle.fabric_terms.specs.declared.config.FabricConfig.{FabricConfig}
use Rattle.world_rules.specs.Runs.{world_after}
use Rattle.world_rules.specs.Uppers.{Upper}
use Rattle.world_rules.specs.Worlds.{kept_of}
use Rattle.ring_safety.specs.ClusterEvents.{Begins, Bids, Comes, Fires, Hears, IsCluster, Stands, Turns, cluster_after, events_of, kept_by}
use Rattle.ring_safety.proofs.ClusterFollowing.{all_followed}
use Rattle.ring_safety.proofs.ClusterMirrors.{kept_same}

-- the events up to that moment
pub record Front (a : Upper) (c : FabricConfig) (xs : List Comes) (back : ℕ) : Type 0 where
  pub ago : ℕ
  pub same : drop ago (events_of a c xs) ≡ events_of a c (drop back xs)

pub front_of : (a : Upper) (c : FabricConfig) (xs : List Comes) (back : ℕ) → Front a c xs back
front_of a c xs zero = record { ago = 0; same = refl }
front_of a c [] (suc back) = record { ago = 0; same = refl }
front_of a c (x ∷ xs) (suc back) = more x (front_of a c xs back)
  where
    -- each is one event, but for a node's start, which a tick goes before
    more : (x : Comes) → Front a c xs back → Front a c (x ∷ xs) (suc back)
    more (Begins n u) f = record { ago = suc (suc f.ago); same = f.same }
    more (Stands n) f = record { ago = suc f.ago; same = f.same }
    more (Turns u) f = record { ago = suc f.ago; same = f.same }
    more (Bids n d) f = record { ago = suc f.ago; same = f.same }
    more (Hears k) f = record { ago = suc f.ago; same = f.same }
    more (Fires n) f = record { ago = suc f.ago; same = f.same }

pub cluster_front : (a : Upper) (c : FabricConfig) (xs : List Comes) (back : ℕ) → IsCluster a c xs → IsCluster a c (drop back xs)
cluster_front a c xs zero k = k
cluster_front a c [] (suc back) k = k
cluster_front a c (x ∷ xs) (suc back) k = cluster_front a c xs back k.0

pub kept_then : (a : Upper) (c : FabricConfig) (xs : List Comes) (actor : ℕ) → IsCluster a c xs →
    kept_of (world_after a c (events_of a c xs)) actor ≡ kept_by (cluster_after a c xs) actor
kept_then a c xs actor k = kept_same (cluster_after a c xs) (world_after a c (events_of a c xs)) actor (all_followed a (λ bytes. false) c xs k).mirrors
