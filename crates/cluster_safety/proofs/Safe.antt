-- A cluster in one process is safe.
use Rattle.std.proofs.Common.{false, subst}
use Rattle.ring_safety.proofs.ClusterSchedules.{cluster_is_schedule}
use Rattle.ring_safety.proofs.ClusterSeen.{told_steps}
use Rattle.ring_safety.specs.ClusterEvents.{events_of}
use Rattle.ring_safety.specs.ClusterSchedule.{IsSchedule}
use Rattle.ring_safety.specs.ClusterMoments.{moments}
use Rattle.ring_safety.specs.ClusterSteps.{steps_of}
use Rattle.epoch_safety.proofs.Primaries.{no_older_lem, one_primary_lem}
use Rattle.epoch_safety.proofs.Written.{writes_kept_lem}
use Rattle.unit_rules.specs.Fabric.{fabric, fabric_stays}
use Rattle.fabric_terms.specs.Primaries.{Safe}
use Rattle.fabric_terms.specs.Runs.{Run}
use Rattle.fabric_terms.specs.Sound.{IsSound}
use Rattle.ring_safety.proofs.Safe.{leaves_before_take_over_lem, ring_is_safe_lem}
use Rattle.turn_rules.specs.Plans.{Setting}
use Rattle.turn_rules.specs.Process.{Process, after}
use Rattle.turn_rules.proofs.Served.{plans_are_served}
use Rattle.world_rules.specs.Runs.{History, run_of}
use Rattle.write_safety.proofs.Agreed.{commits_agree_lem}
use Rattle.cluster_safety.specs.Laws.{ClusterIsSafe, ServedClusterIsSafe}
use Rattle.cluster_safety.specs.Moments.{moments_of}
use Rattle.cluster_safety.proofs.Acts.{JoinedBy}
use Rattle.cluster_safety.proofs.Answers.{answers_of_committed}
use Rattle.cluster_safety.proofs.Kept.{commits_agree, names_covered, writes_kept}
use Rattle.cluster_safety.proofs.Runs.{safe_shown, tells_alike}
use Rattle.cluster_safety.proofs.Whole.{all_joined}

-- the run of the steps
run_is_safe : (s : Setting) (p : Process) → IsSound s.plan.config → JoinedBy s p → Safe (moments_of p.steps)
run_is_safe s p sound j =
    let c = s.plan.config in
    let is_schedule : IsSchedule fabric c j.xs = cluster_is_schedule fabric fabric_stays c j.xs sound j.is_cluster in
    let schedule : History = events_of fabric c j.xs in
    let run : Run = run_of fabric c schedule in
    let valid = is_schedule.valid (λ bytes. false) in
    let safe : Safe run = record {
      ring = ring_is_safe_lem fabric fabric_stays (λ bytes. false) c schedule sound valid;
      take_overs = leaves_before_take_over_lem fabric fabric_stays (λ bytes. false) c schedule sound valid;
      primaries = one_primary_lem (λ bytes. false) c schedule sound valid;
      epochs = no_older_lem (λ bytes. false) c schedule sound valid;
    } in
    let steps : Safe (steps_of run) = tells_alike (steps_of run) run (told_steps run) is_schedule.steps_ring is_schedule.steps_taken safe in
    safe_shown (moments_of p.steps) (moments fabric c j.xs) j.shows (subst Safe is_schedule.steps steps)

pub served_cluster_is_safe_lem : ServedClusterIsSafe
served_cluster_is_safe_lem s h p sound cp kn order own =
    let q : Process = after s h in
    let j : JoinedBy s q = (all_joined s cp kn h p order own).joined in
    let schedule : History = events_of fabric s.plan.config j.xs in
    let valid = (cluster_is_schedule fabric fabric_stays s.plan.config j.xs sound j.is_cluster).valid (λ bytes. false) in
    record {
      run = run_is_safe s q sound j;
      writes = writes_kept s q.members q.last q.steps j (writes_kept_lem (λ bytes. false) s.plan.config schedule sound valid);
      agree = commits_agree s q.members q.last q.steps j (commits_agree_lem (λ bytes. false) s.plan.config schedule sound valid);
      names = names_covered s q.members q.last q.steps j sound cp.rise;
      answers = answers_of_committed s h p sound cp kn order own;
    }

pub cluster_is_safe_lem : ClusterIsSafe
cluster_is_safe_lem s h p sound cp kn order own = served_cluster_is_safe_lem s h p sound cp kn (plans_are_served s.plan h p order) own
