-- The row of Sync.
use Rattle.std.proofs.Common.{◌≡◌, ℕ, ◌<◌, ◌≤◌, Bool, true, false, cond, ◌&&◌, ◌||◌, ◌==◌, List, [], ◌∷◌, length, Some, Ok, refl, sym, ap, ◌∙◌, subst, inl, arith}
use Rattle.std.proofs.lemmas.Bool.{eqb-true, eqb-false, and_parts}
use Rattle.std.specs.Prelude.{if◌then◌else◌}
use Rattle.ring_points.specs.declared.unit.Epoch.{Epoch}
use Rattle.ring_points.specs.declared.who.Who.{Who}
use Rattle.ring_points.specs.Epochs.{is_older, same_epoch}
use Rattle.fabric_terms.specs.declared.message.Body.TheVariants as body
use Rattle.fabric_terms.specs.declared.record.Record.TheVariants as kept
use Rattle.fabric_terms.specs.declared.report.Report.TheVariants as report
use Rattle.replica_core.specs.declared.entry.Entry.{Entry}
use Rattle.replica_core.specs.declared.refusal.Done.TheVariants.{New}
use Rattle.replica_core.specs.declared.refusal.ReplicaRefusal.TheVariants.{Older}
use Rattle.replica_core.specs.declared.role.Role.{Role}
use Rattle.replica_core.specs.declared.role.Role.TheVariants.{None as NoRole, IdleSecondary, ActiveSecondary, Primary}
use Rattle.replica_core.specs.Roles.{demoted, is_idle}
use Rattle.replica_core.specs.Replicas.{Replica, raised, adopted}
use Rattle.replica_core.specs.Calls.{unless, held_if, adopt_own_call, idle_call}
use Rattle.replica_core.specs.Calls as call
use Rattle.replica_core.proofs.Orders.{not_itself}
use Rattle.epoch_machine.specs.Settings.{Settings}
use Rattle.epoch_machine.specs.World.{World, TellsPromised}
use Rattle.epoch_machine.specs.Deeds.{RaisesPromise, AdoptsNothing, AdoptsOwn, SaysAdopted}
use Rattle.epoch_machine.specs.Guards.{Can}
use Rattle.epoch_machine.specs.Effects.{after}
use Rattle.epoch_machine.specs.Invariant.{Invariant}
use Rattle.epoch_machine.proofs.Histories.{deed_keeps}
use Rattle.unit_rules.specs.declared.progress.CatchUp.{CatchUp}
use Rattle.unit_rules.specs.Copies.{fetch_next, own_adopted, copy_begun, sync_taken, sync_answered, sync_received}
use Rattle.unit_rules.specs.Deeds.{Keep, Send, Tell, acted}
use Rattle.unit_rules.specs.Progress.{is_primary}
use Rattle.unit_rules.specs.ReplicaStates.{ReplicaState, replica_put}
use Rattle.epoch_refinement.specs.Epochs.{IsEpoch}
use Rattle.epoch_refinement.specs.Refined.{Refined}
use Rattle.epoch_refinement.specs.ReplicaStates.{IsNumbered, ShowsReplicaState}
use Rattle.epoch_refinement.specs.Shown.{ShownSync}
use Rattle.epoch_refinement.proofs.Adopting.{may_adopt, Adopts, adopts}
use Rattle.epoch_refinement.proofs.Doing.{after_refined, nothing_refined, not_primary}
use Rattle.epoch_refinement.proofs.Numbers.{real, same_not, same_epoch-true}
use Rattle.epoch_refinement.proofs.Lasting.{deed_later, later_refl, sync_later}
use Rattle.epoch_refinement.proofs.Promising.{raised_shows, shows_later, numbered_none, promise_above}

-- a replica that is idle now, and else as it was
record IsIdle (r old : Replica) : Type 0 where
  partition : r.partition ≡ old.partition
  promised : r.promised ≡ old.promised
  at_is : r.at ≡ old.at
  log_is : r.log ≡ old.log
  collected_is : r.collected ≡ old.collected
  role_is : is_primary r.role ≡ false

idle_not : (role : Role) → is_idle role ≡ true → is_primary role ≡ false
idle_not NoRole h = refl
idle_not IdleSecondary h = refl
idle_not ActiveSecondary h = refl
idle_not Primary h = absurd (cc (h))

made_idle : (e : Epoch) (r : Replica) → r.promised ≡ e → IsIdle (idle_call e r).1 r
made_idle e r same = go (is_older e r.promised) not_older (same_epoch r.promised e && is_idle r.role) refl
  where
    not_older : is_older e r.promised ≡ false
    not_older = subst (λ z. is_older e z ≡ false) (sym same) (not_itself e)

    not_above : is_older r.promised e ≡ false
    not_above = subst (λ z. is_older z e ≡ false) (sym same) (not_itself e)

    go : (older : Bool) → older ≡ false → (held : Bool) → (same_epoch r.promised e && is_idle r.role) ≡ held →
        IsIdle (unless older (Older r.promised) r (held_if held r (Ok New, record (raised e r) { role = IdleSecondary }))).1 r
    go true h held i = absurd (cc (h))
    go false h true i = record {
      partition = refl;
      promised = refl;
      at_is = refl;
      log_is = refl;
      collected_is = refl;
      role_is = idle_not r.role (and_parts (same_epoch r.promised e) (is_idle r.role) i).1;
    }
    go false h false i = record {
      partition = refl;
      promised = sym same;
      at_is = refl;
      log_is = refl;
      collected_is = ap (λ b. cond b [] r.collected) not_above;
      role_is = refl;
    }

-- a Sync of the promised epoch
module _ {c : Settings} {w : World} (inv : Invariant c w) (p : ℕ) (me : Who) (t : CatchUp) (s : ReplicaState) (shows : ShowsReplicaState w p me.actor s)
    (sync : ShownSync w t.epoch t.origin t.last) (is_promised : s.replica.promised ≡ t.epoch) where
  number_is : w.promised me.actor ≡ sync.plan.epoch
  number_is =
      let q : IsEpoch (w.promised me.actor) t.epoch = subst (IsEpoch (w.promised me.actor)) is_promised shows.promised in
      let e = sync.epoch in q.is ∙ sym e.is

  abbrev idle : Replica
  idle = (idle_call t.epoch s.replica).1

  is_idle_now : IsIdle idle s.replica
  is_idle_now = made_idle t.epoch s.replica is_promised

  abbrev next : ReplicaState
  next = record s { replica = (idle_call t.epoch s.replica).1; catch_up = Some t }

  next_shows : ShowsReplicaState w p me.actor next
  next_shows =
      let i = is_idle_now in record {
        partition = i.partition ∙ shows.partition;
        promised = subst (IsEpoch (w.promised me.actor)) (sym i.promised) shows.promised;
        joined = subst (IsEpoch (w.joined me.actor)) (sym i.at_is) shows.joined;
        log = shows.log ∙ sym i.log_is;
        room = subst (λ (l : List Entry). length l ≤ 100000) (sym i.log_is) shows.room;
        collected = λ lt. shows.collected lt ∙ sym i.collected_is;
        taken = λ u h. let same : t ≡ u = cc in subst (λ (t : CatchUp). ShownSync w t.epoch t.origin t.last) same sync;
        reached = reached;
        numbered = subst IsNumbered (sym i.log_is) shows.numbered;
        numbered_collected = subst IsNumbered (sym i.collected_is) shows.numbered_collected;
        idle = λ h. i.role_is;
        progress = λ l h. absurd (not_primary next l i.role_is h);
      }
    where
      reached : (u : CatchUp) (m : ℕ) → Some t ≡ Some u → IsEpoch m u.epoch → m ≤ w.promised me.actor
      reached u m h i =
          let same : t ≡ u = cc in
          let j : IsEpoch m t.epoch = subst (λ (t : CatchUp). IsEpoch m t.epoch) (sym same) i in
          let e = sync.epoch in let a = j.is in let b = e.is in let q = number_is in omega arith

  module _ (apart : same_epoch s.replica.at t.epoch ≡ false) where
    before : w.joined me.actor < sync.plan.epoch
    before =
        let le = inv.logs.below me.actor in
        let d = same_not s.replica.at t.epoch shows.joined sync.epoch apart in
        let q = number_is in omega arith

    not_older : is_older t.epoch next.replica.promised ≡ false
    not_older = let i = is_idle_now in subst (λ z. is_older t.epoch z ≡ false) (sym (i.promised ∙ is_promised)) (not_itself t.epoch)

    apart_now : same_epoch next.replica.at t.epoch ≡ false
    apart_now = let i = is_idle_now in subst (λ z. same_epoch z t.epoch ≡ false) (sym i.at_is) apart

    -- the call that adopts, in each of its cases
    own_call : (none whole : Bool) → (t.last == 0) ≡ none → (t.last == length next.replica.log) ≡ whole →
        adopt_own_call t.epoch t.last next.replica ≡ call.own_adopted none whole t.epoch next.replica
    own_call none whole h i =
        λ k. unless (not_older k) (Older next.replica.promised) next.replica
        (held_if (apart_now k) next.replica (call.own_adopted (h k) (i k) t.epoch next.replica))

    not_above : is_older next.replica.promised t.epoch ≡ false
    not_above = let i = is_idle_now in subst (λ z. is_older z t.epoch ≡ false) (sym (i.promised ∙ is_promised)) (not_itself t.epoch)

    same_role : (raised t.epoch next.replica).role ≡ next.replica.role
    same_role = ap (λ b. cond b (demoted next.replica.role) next.replica.role) not_above

    same_collected : (raised t.epoch next.replica).collected ≡ next.replica.collected
    same_collected = ap (λ b. cond b [] next.replica.collected) not_above

    has_log : (old log : List Entry) → old ≡ log → length log ≤ 100000 → IsNumbered log →
        Adopts inv p me t next next_shows sync number_is before old (replica_put next (adopted t.epoch log next.replica))
    has_log old log same room numbered =
        let i = is_idle_now in record {
          partition = i.partition ∙ shows.partition;
          promised_is = sym (i.promised ∙ is_promised);
          at_is = refl;
          log_is = same;
          room = room;
          taken_is = refl;
          numbered = numbered;
          numbered_collected = subst IsNumbered (sym same_collected) next_shows.numbered_collected;
          role_is = subst (λ r. is_primary r ≡ false) (sym same_role) i.role_is;
        }

    adopts_own : (none whole : Bool) → (t.last == 0) ≡ none → (none ≡ false → t.origin ≡ me.actor) →
        Refined c w p me (own_adopted t next (call.own_adopted none whole t.epoch next.replica))
    adopts_own true whole h own =
        let can : Can c w (AdoptsNothing me.actor sync.plan) =
        (may_adopt inv p me t next next_shows sync number_is before, let a = eqb-true t.last 0 h in let l = sync.last_is in omega arith) in
        adopts inv p me t next next_shows sync number_is before [] (replica_put next (adopted t.epoch [] next.replica)) true
        (has_log [] [] refl (omega arith) numbered_none)
        (deed_keeps inv (AdoptsNothing me.actor sync.plan) can) (deed_later w (AdoptsNothing me.actor sync.plan))
    adopts_own false true h own =
        let can : Can c w (AdoptsOwn me.actor sync.plan) = (
          may_adopt inv p me t next next_shows sync number_is before,
          sync.origin_is ∙ own refl,
          let a = eqb-false t.last 0 h in let l = sync.last_is in
              omega arith,
        ) in
        adopts inv p me t next next_shows sync number_is before (w.log me.actor) (replica_put next (adopted t.epoch next.replica.log next.replica)) true
        (has_log (w.log me.actor) next.replica.log next_shows.log next_shows.room next_shows.numbered)
        (deed_keeps inv (AdoptsOwn me.actor sync.plan) can) (deed_later w (AdoptsOwn me.actor sync.plan))
    adopts_own false false h own = nothing_refined inv next_shows

    copies : (none own : Bool) → (t.last == 0) ≡ none → (t.origin == me.actor) ≡ own →
        Refined c w p me (if none || own then own_adopted t next (adopt_own_call t.epoch t.last next.replica) else acted next (fetch_next t next.replica ∷ []))
    copies true own h i =
        subst (λ o. Refined c w p me (own_adopted t next o)) (sym (own_call true (t.last == length next.replica.log) h refl))
        (adopts_own true (t.last == length next.replica.log) h (λ k. absurd (cc (k))))
    copies false true h i =
        subst (λ o. Refined c w p me (own_adopted t next o)) (sym (own_call false (t.last == length next.replica.log) h refl))
        (adopts_own false (t.last == length next.replica.log) h (λ k. eqb-true t.origin me.actor i))
    copies false false h i = record {
      after = w;
      inv = inv;
      later = later_refl w;
      shows = next_shows;
      sent = (next_shows.partition, record { plan = sync.plan; synced = sync.synced; epoch = sync.epoch; origin_is = sync.origin_is }, tt);
      told = refl;
    }

  pub taken_refines : Refined c w p me (sync_taken me.actor t s)
  taken_refines = go (same_epoch s.replica.at t.epoch) refl
    where
      go : (at : Bool) → same_epoch s.replica.at t.epoch ≡ at →
          Refined c w p me (if at then acted s (Send t.asker (body.Adopted s.replica.partition t.epoch (length s.replica.log)) ∷ [])
          else copy_begun me.actor t s)
      go true i =
          let joined : IsEpoch (w.joined me.actor) t.epoch = subst (IsEpoch (w.joined me.actor)) (same_epoch-true s.replica.at t.epoch i) shows.joined in
          let has_adopted : w.joined me.actor ≡ w.promised me.actor =
          let a = joined.is in let e = sync.epoch in let b = e.is in let q = number_is in omega arith in
          record {
            after = after w (SaysAdopted me.actor);
            inv = deed_keeps inv (SaysAdopted me.actor) has_adopted;
            later = deed_later w (SaysAdopted me.actor);
            shows = shows_later (deed_later w (SaysAdopted me.actor)) refl refl refl refl refl shows;
            sent = (shows.partition, (w.joined me.actor, joined, inl refl), tt);
            told = refl;
          }
      go false i = copies i (t.last == 0) (t.origin == me.actor) refl refl

module _ {c : Settings} {w : World} (inv : Invariant c w) (p : ℕ) (me : Who) (s : ReplicaState) (shows : ShowsReplicaState w p me.actor s) where
  pub sync_refines : (t : CatchUp) → ShownSync w t.epoch t.origin t.last → Refined c w p me (sync_received me.actor t s)
  unfolding sync_received
  sync_refines t sync = go (is_older t.epoch s.replica.promised) refl (same_epoch s.replica.promised t.epoch) refl
    where
      go : (older : Bool) → is_older t.epoch s.replica.promised ≡ older → (same : Bool) → same_epoch s.replica.promised t.epoch ≡ same →
          Refined c w p me
          (sync_answered me.actor t s (unless older (Older s.replica.promised) s.replica (held_if same s.replica (Ok New, raised t.epoch s.replica))))
      go true h same j = record {
        after = w;
        inv = inv;
        later = later_refl w;
        shows = shows;
        sent = (shows.partition, let q = shows.promised in q.small, tt);
        told = refl;
      }
      go false h true j = taken_refines inv p me t s shows sync (same_epoch-true s.replica.promised t.epoch j)
      go false h false j =
          let n = sync.plan.epoch in
          let is = sync.epoch in
          let above = promise_above inv p me s shows t.epoch n is h j in
          let later = deed_later w (RaisesPromise me.actor n) in
          after_refined later (Keep (kept.PromisedAt s.replica.partition t.epoch) ∷ Tell (report.Promised s.replica.partition t.epoch) ∷ [])
          ((shows.partition, real n t.epoch is (omega arith)), tt) (λ log. ap (λ k. TellsPromised me.actor k ∷ w.told) is.is)
          (taken_refines (deed_keeps inv (RaisesPromise me.actor n) above) p me t (replica_put s (raised t.epoch s.replica))
          (raised_shows inv p me s shows t.epoch n is above) (sync_later later sync) refl)
