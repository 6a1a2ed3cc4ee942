-- A firing of a primary: it sends again what its peers lack.
use Rattle.std.proofs.Common.{◌≡◌, ℕ, zero, suc, ◌+◌, ◌-◌, ◌<◌, ◌≤◌, List, [], ◌∷◌, ◌++◌, length, Option, None, Some, refl, sym, ◌∙◌, subst, inl, inr, ⊎_elim, arith}
use Rattle.std.proofs.lemmas.Bool.{cases_lt}
use Rattle.std.specs.List.{flat_map}
use Rattle.ring_points.specs.declared.who.Who.{Who}
use Rattle.replica_core.specs.declared.entry.Entry.{Entry}
use Rattle.replica_core.specs.Replicas.{Replica}
use Rattle.epoch_machine.specs.Logs.{IsAt}
use Rattle.epoch_machine.specs.Plans.{Role}
use Rattle.epoch_machine.specs.Settings.{Settings}
use Rattle.epoch_machine.specs.World.{World}
use Rattle.epoch_machine.specs.Deeds.{SendsAppend}
use Rattle.epoch_machine.specs.Guards.{Can}
use Rattle.epoch_machine.specs.Effects.{after}
use Rattle.epoch_machine.specs.SoundRoles.{SoundRole}
use Rattle.epoch_machine.specs.Invariant.{Invariant}
use Rattle.epoch_machine.proofs.Kept.{active_sync}
use Rattle.epoch_machine.proofs.Writing.{role_log}
use Rattle.epoch_machine.proofs.Histories.{deed_keeps}
use Rattle.unit_rules.specs.declared.progress.PeerProgress.{PeerProgress}
use Rattle.unit_rules.specs.Deeds.{Deed, acted}
use Rattle.unit_rules.specs.Progress.{progress_of}
use Rattle.unit_rules.specs.ReplicaStates.{ReplicationProgress, ReplicaState, entry_at}
use Rattle.unit_rules.specs.Writes.{append_to, entry_sent, progress_fired, state_fired}
use Rattle.epoch_refinement.specs.Epochs.{IsEpoch}
use Rattle.epoch_refinement.specs.Refined.{AllShown, Refined}
use Rattle.epoch_refinement.specs.ReplicaStates.{ShowsReplicaState, ShowsProgress}
use Rattle.epoch_refinement.specs.Told.{tells_all}
use Rattle.epoch_refinement.proofs.Committing.{progress_epoch}
use Rattle.epoch_refinement.proofs.Fetching.{entry_found}
use Rattle.epoch_refinement.proofs.Numbers.{one_epoch}
use Rattle.epoch_refinement.proofs.Lasting.{deed_later, later_refl, later_trans, all_shown_later}
use Rattle.epoch_refinement.proofs.Promising.{shows_later}

-- beyond a front
beyond : (xs ys : List Entry) (n : ℕ) (x : Entry) → length xs ≤ n → IsAt (xs ++ ys) n x → IsAt ys (n - length xs) x
beyond [] ys n x le h = subst (λ k. IsAt ys k x) (omega arith) h
beyond (z ∷ xs) ys zero x le h = absurd (omega arith)
beyond (z ∷ xs) ys (suc n) x le h = let less : length xs ≤ n = omega arith in subst (λ k. IsAt ys k x) (omega arith) (beyond xs ys n x less h)

-- a firing of a primary: each peer is sent the entry that is next for it
module _ {c : Settings} {w : World} (inv : Invariant c w) (p : ℕ) (me : Who) (s : ReplicaState) (shows : ShowsReplicaState w p me.actor s) (l : ReplicationProgress)
    (is_progress : progress_of s ≡ Some l) where
  abbrev role : Role
  role = (shows.progress l is_progress).0

  fired_progress : ShowsProgress w me.actor (length s.replica.log) l role
  fired_progress = (shows.progress l is_progress).1

  fired_sound : SoundRole w.active w.told me.actor (w.promised me.actor) (w.joined me.actor) (w.log me.actor) role
  fired_sound = inv.roles me.actor role fired_progress.role

  fired_epoch : IsEpoch role.plan.epoch s.replica.at
  fired_epoch = progress_epoch inv p me s shows l role fired_progress

  module _ (q : PeerProgress) (x : Entry) (place : ℕ) (lsn_is : q.next ≡ place + 1) (at : IsAt s.replica.log place x) (rest : List Deed)
      (shown : AllShown w p me rest) (silent : (log : List Entry) → tells_all me.actor log rest w.told ≡ w.told) where
    sends : Refined c w p me (acted s (append_to s.replica.at s.replica q.next x.bytes q ∷ rest))
    sends = ⊎_elim of_base of_epoch (cases_lt place (length role.plan.base))
      where
        in_world : IsAt (w.log me.actor) place x
        in_world = subst (λ l. IsAt l place x) (sym shows.log) at

        of_base : place < length role.plan.base → Refined c w p me (acted s (append_to s.replica.at s.replica q.next x.bytes q ∷ rest))
        of_base lt = record {
          after = w;
          inv = inv;
          later = later_refl w;
          shows = shows;
          sent = (
            shows.partition,
            record {
              plan = role.plan;
              synced = active_sync inv role.plan fired_sound.activated;
              epoch = fired_epoch;
              is = inl (omega arith);
            },
            shown,
          );
          told = sym (silent s.replica.log);
        }

        can : Can c w (SendsAppend me.actor place role x)
        can = (fired_progress.role, in_world)

        of_epoch : length role.plan.base ≤ place → Refined c w p me (acted s (append_to s.replica.at s.replica q.next x.bytes q ∷ rest))
        of_epoch le =
            let written = beyond role.plan.base (w.written role.plan.epoch) place x le
            (subst (λ l. IsAt l place x) (role_log inv me.actor role fired_progress.role) in_world) in
            let number = inv.logs.entries role.plan.epoch (place - length role.plan.base) x written in
            let small = shows.numbered.small place x at in
            let e = fired_epoch in
            let epoch : x.epoch ≡ s.replica.at = one_epoch x.epoch s.replica.at role.plan.epoch (record { small = small; is = sym number }) e.number in
            let n : x.lsn ≡ q.next = shows.numbered.lsn place x at ∙ sym lsn_is in
            record {
              after = after w (SendsAppend me.actor place role x);
              inv = deed_keeps inv (SendsAppend me.actor place role x) can;
              later = deed_later w (SendsAppend me.actor place role x);
              shows = shows_later (deed_later w (SendsAppend me.actor place role x)) refl refl refl refl refl shows;
              sent = (
                shows.partition,
                record {
                  plan = role.plan;
                  synced = active_sync inv role.plan fired_sound.activated;
                  epoch = fired_epoch;
                  is =
                      inr (
                        place,
                        lsn_is,
                        inl (λ i. record { epoch = role.plan.epoch; place = place; entry = record { epoch = sym epoch i; lsn = sym n i; bytes = x.bytes } }),
                      );
                },
                all_shown_later (deed_later w (SendsAppend me.actor place role x)) p me rest shown,
              );
              told = sym (silent s.replica.log);
            }

-- the deeds of a firing tell nothing
pub fired_tells : (node : ℕ) (log : List Entry) (r : Replica) (qs : List PeerProgress) (before : List _) →
    tells_all node log (flat_map (λ q. entry_sent r q (entry_at q.next r.log)) qs) before ≡ before
fired_tells node log r [] before = refl
fired_tells node log r (q ∷ qs) before = go (entry_at q.next r.log) (fired_tells node log r qs before)
  where
    go : (o : Option Entry) → tells_all node log (flat_map (λ q. entry_sent r q (entry_at q.next r.log)) qs) before ≡ before →
        tells_all node log (entry_sent r q o ++ flat_map (λ q. entry_sent r q (entry_at q.next r.log)) qs) before ≡ before
    go None e = e
    go (Some x) e = e

peers_fired : {c : Settings} {w : World} (inv : Invariant c w) (p : ℕ) (me : Who) (s : ReplicaState) (shows : ShowsReplicaState w p me.actor s) (l : ReplicationProgress) →
    progress_of s ≡ Some l → (qs : List PeerProgress) → Refined c w p me (acted s (flat_map (λ q. entry_sent s.replica q (entry_at q.next s.replica.log)) qs))
peers_fired {w = w} inv p me s shows l is_progress [] = record { after = w; inv = inv; later = later_refl w; shows = shows; sent = tt; told = refl }
peers_fired {c = c} {w = w} inv p me s shows l is_progress (q ∷ qs) =
    go (peers_fired inv p me s shows l is_progress qs) (entry_at q.next s.replica.log) refl
  where
    go : Refined c w p me (acted s (flat_map (λ q. entry_sent s.replica q (entry_at q.next s.replica.log)) qs)) → (o : Option Entry) →
        entry_at q.next s.replica.log ≡ o →
        Refined c w p me (acted s (entry_sent s.replica q o ++ flat_map (λ q. entry_sent s.replica q (entry_at q.next s.replica.log)) qs))
    go before None h = before
    go before (Some x) h =
        let found = entry_found q.next s.replica.log x h in
        let more = sends before.inv p me s before.shows l is_progress q x found.0 found.1 found.2
        (flat_map (λ q. entry_sent s.replica q (entry_at q.next s.replica.log)) qs) before.sent
        (λ log. fired_tells me.actor log s.replica qs before.after.told) in
        record {
          after = more.after;
          inv = more.inv;
          later = later_trans before.later more.later;
          shows = more.shows;
          sent = more.sent;
          told =
              more.told ∙ fired_tells me.actor s.replica.log s.replica qs before.after.told ∙ before.told;
        }

pub fire_refines : {c : Settings} {w : World} (inv : Invariant c w) (p : ℕ) (me : Who) (s : ReplicaState) → ShowsReplicaState w p me.actor s →
    Refined c w p me (acted s (state_fired s))
unfolding state_fired
fire_refines {c = c} {w = w} inv p me s shows = go (progress_of s) refl
  where
    go : (o : Option ReplicationProgress) → progress_of s ≡ o → Refined c w p me (acted s (progress_fired s.replica o))
    go None h = record { after = w; inv = inv; later = later_refl w; shows = shows; sent = tt; told = refl }
    go (Some l) h = peers_fired inv p me s shows l h l.peers
