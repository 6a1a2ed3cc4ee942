-- What is promised of writes over the runs of schedules holds of a cluster's steps.
use Rattle.std.proofs.Common.{◌≡◌, ◌≤◌, ℕ, false, List, [], ◌∷◌, drop, length, take, Option, Some, Ok, ap, sym, subst, ◌∙◌}
use Rattle.std.specs.Prelude.{slice_get}
use Rattle.ring_safety.proofs.ClusterFollowing.{Follows, all_followed}
use Rattle.ring_safety.proofs.ClusterFronts.{Front, cluster_front, front_of, kept_then}
use Rattle.ring_safety.proofs.ClusterMirrors.{RunsAs, runs_as}
use Rattle.ring_safety.proofs.ClusterMoments.{entry_seen, newest_entry}
use Rattle.ring_safety.specs.ClusterEvents.{Comes, IsCluster, events_of}
use Rattle.epoch_safety.proofs.Naming.{names_covered_lem}
use Rattle.unit_rules.specs.Fabric.{fabric}
use Rattle.fabric_lemmas.specs.Maps.{at}
use Rattle.fabric_terms.specs.declared.config.FabricConfig.{FabricConfig}
use Rattle.fabric_terms.specs.declared.record.Record.{Record}
use Rattle.fabric_terms.specs.declared.report.Report.{Report}
use Rattle.fabric_terms.specs.declared.report.Report.TheVariants.{Committed, IsPrimary}
use Rattle.fabric_terms.specs.Runs.{Entry, Run}
use Rattle.fabric_terms.specs.Sound.{IsSound}
use Rattle.join_phases.specs.Phases.{is_left}
use Rattle.replica_core.specs.Replicas.{Replica}
use Rattle.replica_core.specs.declared.entry.Entry as logs
use Rattle.replica_records.specs.ReplicaStates.{state_at}
use Rattle.ring_points.specs.declared.who.Who.{Who}
use Rattle.run_promises.specs.Covered.{CoverCommitted, CoverCommittedIn}
use Rattle.run_promises.specs.Reports.{IsAmong, HasReported, log_after}
use Rattle.run_promises.specs.Snapshots.{Snapshot}
use Rattle.run_promises.specs.Writes.{CommitsAgree, CommitsAgreeIn, WritesKept, WritesKeptIn}
use Rattle.turn_rules.specs.Plans.{Setting}
use Rattle.turn_rules.specs.Steps.{Member, Node, Step}
use Rattle.unit_rules.specs.Answers.{ready}
use Rattle.unit_rules.specs.Progress.{progress_of}
use Rattle.world_rules.specs.Nodes.{NodeState}
use Rattle.world_rules.specs.Runs.{History, run_of, world_after}
use Rattle.cluster_safety.specs.Logs.{past_of, recorded_log}
use Rattle.cluster_safety.specs.Plans.{Rise}
use Rattle.cluster_safety.proofs.Echoes.{Echo, Tells}
use Rattle.cluster_safety.proofs.Joined.{Joined, cluster}
use Rattle.cluster_safety.proofs.Members.{node_here}

reports_newest : (run : Run) (x : Who) (r : Report) → IsAmong (newest_entry run) x r → HasReported run x r
reports_newest [] x r told = absurd told
reports_newest (m ∷ ms) x r told = told

-- what something that came tells is reported in the schedule's run
told_then : (c : FabricConfig) (xs : List Comes) (x : Who) (r : Report) → IsCluster fabric c xs → Tells c xs x r → HasReported (run_of fabric c (events_of fabric c xs)) x r
told_then c [] x r k told = absurd told
told_then c (y ∷ ys) x r k told =
    reports_newest (run_of fabric c (events_of fabric c (y ∷ ys))) x r
    (subst (λ (o : Option Entry). IsAmong o x r) (sym (entry_seen fabric c ys y k)) told)

-- a report of the schedule's run, with these logs beside it
pub record Reported (c : FabricConfig) (h : History) (at : Snapshot) (x : Who) (r : Report) : Type 0 where
  pub ago : ℕ
  pub told : HasReported (run_of fabric c (drop ago h)) x r
  pub log : (node partition : ℕ) → at.log node partition ≡ log_after c (drop ago h) node partition

module _ (s : Setting) (ms : List Member) (last : Option ℕ) (steps : List Step) (j : Joined s ms last steps) where
  -- the schedule that the cluster is
  abbrev pub schedule : History
  schedule = events_of fabric s.plan.config j.xs

  pub follows : Follows fabric (λ bytes. false) s.plan.config (cluster s j.xs) schedule
  follows = all_followed fabric (λ bytes. false) s.plan.config j.xs j.is_cluster

  -- each report of a step is one of the schedule's run
  pub reported : (ago : ℕ) (x : Who) (r : Report) → HasReported (past_of steps ago).run x r → Reported s.plan.config schedule (past_of steps ago) x r
  reported ago x r told =
      let c = s.plan.config in
      let e : Echo c j.xs (drop ago steps) x r = j.echoes ago x r told in
      let f : Front fabric c j.xs e.back = front_of fabric c j.xs e.back in
      let k : IsCluster fabric c (drop e.back j.xs) = cluster_front fabric c j.xs e.back j.is_cluster in
      let then : events_of fabric c (drop e.back j.xs) ≡ drop f.ago schedule = sym f.same in
      record {
        ago = f.ago;
        told = subst (λ (h : History). HasReported (run_of fabric c h) x r) then (told_then c (drop e.back j.xs) x r k e.tells);
        log = λ node partition.
            ap (λ (rs : List Record). recorded_log rs partition) (e.kept node ∙ sym (kept_then fabric c (drop e.back j.xs) node k))
            ∙ ap (λ (h : History). log_after c h node partition) then;
      }

  pub writes_kept : WritesKept s.plan.config schedule → WritesKeptIn (past_of steps)
  writes_kept kept i k partition last e later x y committed primary older loss =
      let a = reported i x (Committed partition e last) committed in
      let b = reported k y (IsPrimary partition later) primary in
      let both = kept a.ago b.ago partition last e later x y a.told b.told older loss in
      let here = b.log y.actor partition in
      let there = a.log x.actor partition in
      (subst (λ (es : List logs.Entry). last ≤ length es) (sym here) both.0, ap (take last) here ∙ both.1 ∙ ap (take last) (sym there))

  pub commits_agree : CommitsAgree s.plan.config schedule → CommitsAgreeIn (past_of steps)
  commits_agree agree i k partition last further e f x y first second loss le =
      let a = reported i x (Committed partition e last) first in
      let b = reported k y (Committed partition f further) second in
      let all = agree a.ago b.ago partition last further e f x y a.told b.told loss le in
      let one = a.log x.actor partition in
      let other = b.log y.actor partition in (
        subst (λ (es : List logs.Entry). last ≤ length es) (sym one) all.0,
        subst (λ (es : List logs.Entry). further ≤ length es) (sym other) all.1,
        ap (take last) other ∙ all.2 ∙ ap (take last) (sym one),
      )

  covers : (partition count : ℕ) (own : Replica) → CoverCommitted s.plan.config schedule partition count own → CoverCommittedIn (past_of steps) partition count own
  covers partition count own cover i last e x committed not_older loss =
      let a = reported i x (Committed partition e last) committed in
      let both = cover a.ago last e x a.told not_older loss in
      (both.0, both.1 ∙ ap (take last) (sym (a.log x.actor partition)))

  -- a node of the process runs in the schedule's world
  pub runs_there : Rise 0 s.plan.actors → (place : ℕ) (node : NodeState fabric) → slice_get ms place ≡ Some (Node node) →
      RunsAs {a = fabric} (world_after fabric s.plan.config schedule) node.ring.me.actor node
  runs_there rise place node here =
      runs_as (cluster s j.xs) (world_after fabric s.plan.config schedule) node.ring.me.actor node follows.mirrors
      (ap (at node.ring.me.actor) j.nodes ∙ node_here 0 ms s.plan.actors place node rise j.places here)

  pub names_covered : IsSound s.plan.config → Rise 0 s.plan.actors → (place partition count : ℕ) (node : NodeState fabric) → slice_get ms place ≡ Some (Node node) →
      is_left node.ring.phase ≡ false → ready (progress_of (state_at partition node.above)) ≡ Ok count →
      CoverCommittedIn (past_of steps) partition count (state_at partition node.above).replica
  names_covered sound rise place partition count node here stays is_ready =
      let c = s.plan.config in
      let k = runs_there rise place node here in
      let by : CoverCommitted c schedule partition count (state_at partition k.state.node.above).replica =
      names_covered_lem (λ bytes. false) c schedule sound follows.valid node.ring.me.actor partition count k.state k.here
      (ap (λ (n : NodeState fabric). is_left n.ring.phase) k.same ∙ stays)
      (ap (λ (n : NodeState fabric). ready (progress_of (state_at partition n.above))) k.same ∙ is_ready) in
      covers partition count (state_at partition node.above).replica
      (subst (λ (n : NodeState fabric). CoverCommitted c schedule partition count (state_at partition n.above).replica) k.same by)
