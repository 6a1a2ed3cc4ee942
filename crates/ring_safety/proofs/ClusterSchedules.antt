-- The whole history.
use Rattle.std.proofs.Common.{false}
use Rattle.world_rules.specs.Above.{StaysAbove}
use Rattle.ring_safety.proofs.Safe.{ring_is_safe_lem, leaves_before_take_over_lem}
use Rattle.world_rules.specs.Runs.{run_of}
use Rattle.world_rules.specs.Uppers.{Upper}
use Rattle.ring_safety.specs.ClusterEvents.{cluster_after, events_of}
use Rattle.ring_safety.specs.ClusterSchedule.{ClusterIsSchedule}
use Rattle.ring_safety.proofs.ClusterFollowing.{Follows, all_followed}
use Rattle.ring_safety.proofs.ClusterMoments.{all_seen}
use Rattle.ring_safety.proofs.ClusterSeen.{steps_ring_safe, steps_taken}

pub cluster_is_schedule : (a : Upper) → StaysAbove a → ClusterIsSchedule a
cluster_is_schedule a stays c xs sound k =
    let f : Follows a (λ bytes. false) c (cluster_after a c xs) (events_of a c xs) = all_followed a (λ bytes. false) c xs k in
    record {
      valid = λ is_frame. (all_followed a is_frame c xs k).valid;
      time = f.mirrors.time;
      nodes = f.mirrors.nodes;
      arbiters = f.mirrors.arbiters;
      frames = f.mirrors.frames;
      kept = f.mirrors.kept;
      steps = all_seen a c xs k;
      ring = ring_is_safe_lem a stays (λ bytes. false) c (events_of a c xs) sound f.valid;
      taken = leaves_before_take_over_lem a stays (λ bytes. false) c (events_of a c xs) sound f.valid;
      steps_ring = steps_ring_safe (run_of a c (events_of a c xs)) (ring_is_safe_lem a stays (λ bytes. false) c (events_of a c xs) sound f.valid);
      steps_taken = steps_taken (run_of a c (events_of a c xs)) (leaves_before_take_over_lem a stays (λ bytes. false) c (events_of a c xs) sound f.valid);
    }
