-- Who may answer about names answers by entries that begin with all that was reported committed.
use Rattle.std.proofs.Common.{◌≡◌, ℕ, ◌≤◌, Bool, true, false, length, take, Option, None, Some, Result, Ok, Err, refl, sym, ◌∙◌, subst}
use Rattle.std.specs.Prelude.{◌==◌, drop, nat_lt, if◌then◌else◌}
use Rattle.std.proofs.lemmas.List.{take-take}
use Rattle.fabric_terms.specs.declared.report.Reason.{Reason}
use Rattle.fabric_terms.specs.declared.report.Reason.TheVariants as reason
use Rattle.epoch_machine.specs.Epochs.{number_of}
use Rattle.epoch_machine.proofs.Kept.{active_sync, positive, sync_plan}
use Rattle.replica_records.specs.ReplicaStates.{state_at}
use Rattle.epoch_refinement.specs.Epochs.{IsEpoch, IsReal}
use Rattle.epoch_refinement.specs.ReplicaStates.{ShowsReplicaState}
use Rattle.epoch_refinement.proofs.Losing.{settings_sound}
use Rattle.epoch_refinement.proofs.Numbers.{number_older_not, real}
use Rattle.unit_rules.specs.Answers.{ready}
use Rattle.unit_rules.specs.Progress.{progress_of}
use Rattle.unit_rules.specs.ReplicaStates.{ReplicationProgress, ReplicaState}
use Rattle.unit_rules.specs.Steps.{Failover}
use Rattle.epoch_safety.specs.Laws.{NamesAreCovered}
use Rattle.epoch_safety.proofs.Committing.{LeadsAt}
use Rattle.epoch_safety.proofs.Covering.{progress_covers}
use Rattle.epoch_safety.proofs.Followed.{FollowedLives, followed_lives}
use Rattle.epoch_safety.proofs.Primaries.{numbered}
use Rattle.epoch_safety.proofs.Written.{committed_told, loss_is}
use Rattle.cold_start.specs.Lives.{one_life}
use Rattle.cold_start.proofs.OneLife.{valid_one, world_one}
use Rattle.epoch_safety.proofs.OneLife.{snapshots_one}
use Rattle.epoch_safety.specs.Lives.{LivesCoverNames, NamesCoveredIn, lives_log}
use Rattle.world_rules.specs.Worlds.{World}
use Rattle.unit_rules.specs.Units.{units}
use Rattle.run_promises.specs.Snapshots.{Snapshots}

-- what a primary that is ready holds committed is what it answers by
is_ready : (o : Option ReplicationProgress) (count : ℕ) → ready o ≡ Ok count → (l : ReplicationProgress) × (o ≡ Some l) × (l.committed ≡ count)
is_ready None count h = absurd (cc (h))
is_ready (Some l) count h = (l, refl, by (nat_lt l.begun l.committed) h)
  where
    sure : (reported : ℕ) (none : Bool) → ◌≡◌ {A = Result ℕ Reason} (if none then Err reason.NotReady else Ok reported) (Ok count) → reported ≡ count
    sure reported true h = absurd (cc (h))
    sure reported false h = cc (h)

    nothing : ◌≡◌ {A = Result ℕ Reason} (Err reason.NotReady) (Ok count) → l.committed ≡ count
    nothing h = absurd (cc (h))

    by : (b : Bool) → (let reported : ℕ = if b then l.committed else 0 in ◌≡◌ {A = Result ℕ Reason} (if reported == 0 then Err reason.NotReady else Ok reported) (Ok count)) →
        l.committed ≡ count
    by true h = sure l.committed (l.committed == 0) h
    by false h = nothing h

pub lives_cover_names_lem : LivesCoverNames
lives_cover_names_lem is_frame c l sound valid node p count s there stay is_now i last e x earlier not_older loss =
    let k : ℕ = length c.arbiters in
    let state : ReplicaState = state_at p s.node.above in
    let f : FollowedLives c l = followed_lives is_frame c sound l valid in
    let inv = f.follows.inv p in
    let shows : ShowsReplicaState (f.machines p) p node state =
    subst (λ (u : Failover). ShowsReplicaState (f.machines p) p node (state_at p u)) (f.follows.here node s there stay) (f.follows.states node p) in
    let r = is_ready (progress_of state) count is_now in
    let leads : LeadsAt state state.replica.at count = record { progress = r.0; is = r.1; committed_is = r.2; at_is = refl } in
    let shown = shows.progress r.0 r.1 in
    let role = inv.roles node shown.0 (let l = shown.1 in l.role) in
    let own : IsEpoch shown.0.plan.epoch state.replica.at = subst (λ n. IsEpoch n state.replica.at) role.joined_is shows.joined in
    let is_real : IsReal state.replica.at =
    real shown.0.plan.epoch state.replica.at own (positive inv shown.0.plan (sync_plan inv shown.0.plan (active_sync inv shown.0.plan role.activated))) in
    let before = committed_told c l f i p last e x earlier in
    let both : (last ≤ count) × (take last state.replica.log ≡ take last (lives_log c (drop i l) x.actor p)) =
    progress_covers inv (settings_sound k) shows state.replica.at count leads x.actor (number_of e) last (lives_log c (drop i l) x.actor p) before.0
    (number_older_not state.replica.at e (numbered state.replica.at is_real) (numbered e before.1) not_older)
    (loss_is e before.1 ∙ (loss ∙ sym (loss_is state.replica.at is_real))) in
    (both.0, take-take last count state.replica.log both.0 ∙ both.1)

pub names_covered_lem : NamesAreCovered
names_covered_lem is_frame c h sound valid =
    subst (λ (z : World units × Snapshots). NamesCoveredIn z.0 z.1) (λ i. (world_one units c h i, snapshots_one c h i))
    (lives_cover_names_lem is_frame c (one_life h) sound (valid_one units c is_frame h valid))
