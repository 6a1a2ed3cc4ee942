-- A cluster's run is safe, since its history is in the order of a cluster's plan.
use Rattle.std.proofs.Common.{◌≡◌, ℕ, List, ◌∷◌, length, Result, Ok, Err, refl, inl, inr}
use Rattle.fabric_top.proofs.ClusterPlans.{read_for_cluster}
use Rattle.cluster_safety.specs.Plans.{HoldsNothing}
use Rattle.cluster_safety.proofs.Recalling.{nothing_recalled}
use Rattle.cluster_safety.proofs.Safe.{cluster_is_safe_lem}
use Rattle.fabric_top.specs.CrewCauses.{IsCrewRun}
use Rattle.fabric_top.specs.CrewRuns.{RunsCrew, RunsJudged, Seen, failed, read, short}
use Rattle.fabric_status.specs.declared.status.Refusal.{Refusal}
use Rattle.fabric_status.specs.declared.status.Status.{Status}
use Rattle.fabric_terms.specs.declared.record.Record.{Record}
use Rattle.edge_io.specs.Told.{Told}
use Rattle.turn_plans.specs.Plans.{judge_plan}
use Rattle.turn_plans.specs.declared.crew.Crew.TheVariants as crew
use Rattle.turn_rules.specs.Ends.{Broken, Stopped}
use Rattle.turn_rules.specs.Happenings.{History}
use Rattle.turn_rules.specs.Order.{IsInOrder, TurnPosition}
use Rattle.turn_rules.specs.Plans.{Plan}
use Rattle.turn_rules.specs.Recalled.{Recalled}
use Rattle.turn_rules.specs.Whole.{Ends, StoppedRun, setting, with_endpoints}
use Rattle.turn_rules.specs.Works.{Work}
use Rattle.turn_rules.specs.declared.stop_cause.StopCause.{StopCause}
use Rattle.turn_rules.specs.declared.stop_cause.StopCause.TheVariants as stop
use Rattle.fabric_top.specs.Clusters.{IsSafeBroken, IsSafeCluster, IsSafeFor, IsSafeJudged, IsSafeRun, IsSafeStopped, IsSafeUntil, RunsCluster}

module _ (turns : ℕ) (bytes : List ℕ) (plan : Plan) (judged : judge_plan crew.Cluster turns bytes ≡ Ok plan) (a : Told) (nothing : HoldsNothing plan.actors a) where
  -- from what was recalled, which is nothing
  module _ (kept : List (List Record)) (recalled : Recalled plan.actors a kept) (whole : length kept ≡ length plan.actors) where
    safe_for : (h : History) (p : TurnPosition) → IsInOrder plan h p → IsSafeFor (setting plan kept) h
    safe_for h p order = λ own.
        let is = read_for_cluster turns bytes plan judged in
        cluster_is_safe_lem (setting plan kept) h p is.0 is.1 (nothing_recalled plan a kept recalled whole nothing) order own

    safe_broken : (b d : Told) (part : Work) (k : Broken (setting plan kept) b d part) → IsSafeBroken (setting plan kept) b d part k
    safe_broken b d part k = (safe_for k.before k.order.0 k.order.1.0, safe_for (k.last ∷ k.before) k.place k.order)

    safe_stopped : (b d : Told) (stopped : StopCause) (k : Stopped (setting plan kept) b d stopped) → IsSafeStopped (setting plan kept) b d stopped k
    safe_stopped b d stop.OutOfMemory k = safe_broken b d k.0 k.1
    safe_stopped b d stop.WriteFault k = safe_broken b d k.0 k.1.0
    safe_stopped b d stop.KeepFault k = safe_broken b d k.0 k.1.0
    safe_stopped b d (stop.ClockBack former latter) k = safe_for k.0.history k.0.place k.0.order
    safe_stopped b d (stop.Left why) k = safe_for k.history k.place k.order
    safe_stopped b d stop.TableFull k = safe_for k.history k.place k.order
    safe_stopped b d stop.LinkFault k = tt
    safe_stopped b d (stop.BadKeep i) k = tt

  safe_until : (d : Told) (stopped : StopCause) (k : StoppedRun plan a d stopped) → IsSafeUntil plan a d stopped k
  safe_until d stopped k = safe_stopped k.0 k.1.0 k.1.1 (with_endpoints plan a) d stopped k.1.2

  safe_run : (r : Result (Unit {0}) StopCause) (d : Told) (k : Ends plan a r d) → IsSafeRun plan a r d k
  safe_run (Ok done) d k = safe_for k.0 k.1.0 k.1.1 k.1.2.history _ k.1.2.order
  safe_run (Err stop.OutOfMemory) d (inl recalled) = tt
  safe_run (Err stop.OutOfMemory) d (inr (inl opening)) = tt
  safe_run (Err stop.OutOfMemory) d (inr (inr k)) = safe_until d stop.OutOfMemory k
  safe_run (Err stop.KeepFault) d (inl recalled) = tt
  safe_run (Err stop.KeepFault) d (inr k) = safe_until d stop.KeepFault k
  safe_run (Err stop.LinkFault) d k = tt
  safe_run (Err (stop.BadKeep i)) d k = tt
  safe_run (Err stop.WriteFault) d k = safe_until d stop.WriteFault k
  safe_run (Err (stop.ClockBack former latter)) d k = safe_until d (stop.ClockBack former latter) k
  safe_run (Err (stop.Left why)) d k = safe_until d (stop.Left why) k
  safe_run (Err stop.TableFull) d k = safe_until d stop.TableFull k

safe_judged : (turns : ℕ) (bytes : List ℕ) (r : Result Plan Refusal) → judge_plan crew.Cluster turns bytes ≡ r → (a : Told) (ended : Status) (c : Told) (k : RunsJudged r a ended c) → IsSafeJudged r a ended c k
safe_judged turns bytes (Ok plan) is a ended c k = λ nothing. safe_run turns bytes plan is a nothing k.runs.result k.runs.before_last k.runs.ends
safe_judged turns bytes (Err refusal) is a ended c k = tt

safe_cluster : (turns : ℕ) (a : Seen) (ended : Status) (c : Seen) (k : RunsCrew crew.Cluster turns a ended c) → IsSafeCluster turns a ended c k
safe_cluster turns a ended c (failed risen ends) = tt
safe_cluster turns a ended c (short memory same) = tt
safe_cluster turns a ended c (read bytes whole k) = safe_judged turns bytes (judge_plan crew.Cluster turns bytes) refl a.told ended c.told k

pub cluster_runs : (turns : ℕ) (a : Seen) (ended : Status) (c : Seen) → IsCrewRun crew.Cluster turns a ended c → RunsCluster turns a ended c
cluster_runs turns a ended c run = record { run = run; safe = safe_cluster turns a ended c run.runs }
