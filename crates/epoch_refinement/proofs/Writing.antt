-- The row of a write.
use Rattle.std.proofs.Common.{◌≡◌, ℕ, ◌+◌, ◌<◌, ◌≤◌, Bool, true, false, ◌||◌, ◌==◌, nat_lt, List, [], ◌∷◌, ◌++◌, length, Option, None, Some, Ok, refl, sym, ap, ◌∙◌, subst, inl, inr, arith}
use Rattle.std.proofs.lemmas.Bool.{ltb-true, eqb-false}
use Rattle.std.proofs.lemmas.List.{length-append}
use Rattle.std.specs.Prelude.{not, map}
use Rattle.ring_points.specs.declared.unit.Epoch.{Epoch}
use Rattle.ring_points.specs.declared.who.Who.{Who}
use Rattle.ring_points.specs.Epochs.{is_older, same_epoch}
use Rattle.fabric_terms.specs.declared.report.Report.TheVariants as report
use Rattle.fabric_terms.specs.declared.report.Reason.TheVariants as reason
use Rattle.fabric_terms.specs.declared.report.Verb.TheVariants as verb
use Rattle.replica_core.specs.declared.entry.Entry.{Entry}
use Rattle.replica_core.specs.declared.refusal.Done.TheVariants.{New}
use Rattle.replica_core.specs.declared.refusal.ReplicaRefusal.TheVariants.{Older, Gap, LogFull}
use Rattle.replica_core.specs.Replicas.{Replica, written}
use Rattle.replica_core.specs.Calls.{unless, held_if}
use Rattle.epoch_machine.specs.Epochs.{number_of}
use Rattle.epoch_machine.specs.Logs.{IsAt}
use Rattle.epoch_machine.specs.Plans.{Role}
use Rattle.epoch_machine.specs.Settings.{Settings}
use Rattle.epoch_machine.specs.World.{World, TellsAccepted}
use Rattle.epoch_machine.specs.Deeds.{Writes, SendsAppend}
use Rattle.epoch_machine.specs.Guards.{Can}
use Rattle.epoch_machine.specs.Effects.{after}
use Rattle.epoch_machine.specs.SoundRoles.{SoundRole}
use Rattle.epoch_machine.specs.Invariant.{Invariant}
use Rattle.epoch_machine.proofs.Replaced.{put_at}
use Rattle.epoch_machine.proofs.Kept.{active_sync, sync_plan, positive}
use Rattle.epoch_machine.proofs.Histories.{deed_keeps}
use Rattle.unit_rules.specs.declared.progress.PeerProgress.{PeerProgress}
use Rattle.unit_rules.specs.Deeds.{Tell, acted}
use Rattle.unit_rules.specs.Progress.{progress_of}
use Rattle.unit_rules.specs.ReplicaStates.{ReplicationProgress, ReplicaState, replica_put}
use Rattle.unit_rules.specs.Writes.{accepted, append_to, write_answered, write_to, write_commanded}
use Rattle.epoch_refinement.specs.Epochs.{IsEpoch}
use Rattle.epoch_refinement.specs.Facts.{of_node, Later}
use Rattle.epoch_refinement.specs.Refined.{AllShown, Refined}
use Rattle.epoch_refinement.specs.ReplicaStates.{ShowsReplicaState, ShowsProgress}
use Rattle.epoch_refinement.specs.Shown.{ShownAppend}
use Rattle.epoch_refinement.specs.Told.{tells_all}
use Rattle.epoch_refinement.proofs.Committing.{progress_epoch, committed_refines}
use Rattle.epoch_refinement.proofs.Doing.{after_refined, nothing_refined}
use Rattle.epoch_refinement.proofs.Numbers.{real}
use Rattle.epoch_refinement.proofs.Lasting.{deed_later, later_refl, later_trans, sync_later, progress_longer}
use Rattle.epoch_refinement.proofs.Promising.{numbered_push}

last_at : (xs : List Entry) (y : Entry) → IsAt (xs ++ (y ∷ [])) (length xs) y
last_at [] y = refl
last_at (z ∷ xs) y = last_at xs y

-- appends to peers tell nothing
appends_tell : (node : ℕ) (log : List Entry) (e : Epoch) (r : Replica) (lsn : ℕ) (text : List ℕ) (peers : List PeerProgress) (before : List _) →
    tells_all node log (map (append_to e r lsn text) peers) before ≡ before
appends_tell node log e r lsn text [] before = refl
appends_tell node log e r lsn text (q ∷ qs) before = appends_tell node log e r lsn text qs before

module _ {c : Settings} {w : World} (inv : Invariant c w) (p : ℕ) (me : Who) (s : ReplicaState) (shows : ShowsReplicaState w p me.actor s) where
  -- a write of a primary
  module _ (text : List ℕ) (l : ReplicationProgress) (is_progress : progress_of s ≡ Some l) where
    abbrev r : Role
    r = (shows.progress l is_progress).0

    progress : ShowsProgress w me.actor (length s.replica.log) l r
    progress = (shows.progress l is_progress).1

    sound_role : SoundRole w.active w.told me.actor (w.promised me.actor) (w.joined me.actor) (w.log me.actor) r
    sound_role = inv.roles me.actor r progress.role

    abbrev x : Entry
    x = record { epoch = s.replica.at; lsn = length s.replica.log + 1; bytes = text }

    abbrev place : ℕ
    place = length (w.log me.actor)

    epoch_is : IsEpoch r.plan.epoch s.replica.at
    epoch_is = progress_epoch inv p me s shows l r progress

    can_write : Can c w (Writes me.actor r x)
    can_write = (progress.role, let e = epoch_is in sym e.is)

    abbrev y : World
    y = after w (Writes me.actor r x)

    longer : y.log me.actor ≡ s.replica.log ++ (x ∷ [])
    longer = put_at w.log me.actor (w.log me.actor ++ (x ∷ [])) ∙ ap (λ l. l ++ (x ∷ [])) shows.log

    length_now : length (s.replica.log ++ x ∷ []) ≡ length s.replica.log + 1
    length_now = length-append s.replica.log (x ∷ [])

    can_send : Can c y (SendsAppend me.actor place r x)
    can_send = (progress.role, subst (λ l. IsAt l place x) (sym (put_at w.log me.actor (w.log me.actor ++ (x ∷ [])))) (last_at (w.log me.actor) x))

    abbrev z : World
    z = after y (SendsAppend me.actor place r x)

    all : Later (of_node me.actor) w z
    all = later_trans (deed_later w (Writes me.actor r x)) (deed_later y (SendsAppend me.actor place r x))

    next : Invariant c z
    next = deed_keeps (deed_keeps inv (Writes me.actor r x) can_write) (SendsAppend me.actor place r x) can_send

    progress_now : (q : Role) (m : ReplicationProgress) → ShowsProgress w me.actor (length s.replica.log) m q → ShowsProgress z me.actor (length (s.replica.log ++ x ∷ [])) m q
    progress_now q m i = progress_longer all i.role (let n = length_now in omega arith) i

    written_shows : length s.replica.log + 1 ≤ 100000 → ShowsReplicaState z p me.actor (replica_put s (written x s.replica))
    written_shows fits = record {
      partition = shows.partition;
      promised = shows.promised;
      joined = shows.joined;
      log = longer;
      room = let n = length_now in omega arith;
      collected = shows.collected;
      taken = λ t i. sync_later all (shows.taken t i);
      reached = shows.reached;
      numbered = numbered_push s.replica.log x refl (let j = shows.joined in j.small) shows.numbered;
      numbered_collected = shows.numbered_collected;
      idle = shows.idle;
      progress = λ m i. let d = shows.progress m i in (d.0, progress_now d.0 m d.1);
    }

    append_shown : (lsn : ℕ) → lsn ≡ length s.replica.log + 1 → ShownAppend z s.replica.at lsn text
    append_shown lsn same = record {
      plan = r.plan;
      synced = active_sync inv r.plan sound_role.activated;
      epoch = epoch_is;
      is = inr (
        place,
        let n = ap length shows.log in omega arith,
        inl (λ i. record { epoch = r.plan.epoch; place = place; entry = record { epoch = s.replica.at; lsn = same i; bytes = text } }),
      );
    }

    all_sent : (lsn : ℕ) → lsn ≡ length s.replica.log + 1 → (qs : List PeerProgress) → AllShown z p me (map (append_to s.replica.at (written x s.replica) lsn text) qs)
    all_sent lsn same [] = tt
    all_sent lsn same (q ∷ qs) = (shows.partition, append_shown lsn same, all_sent lsn same qs)

    is_real : 0 < r.plan.epoch
    is_real = positive inv r.plan (sync_plan inv r.plan (active_sync inv r.plan sound_role.activated))

    writes : length s.replica.log + 1 ≤ 100000 → Refined c w p me (write_answered text l s (Ok New, written x s.replica))
    writes fits =
        after_refined all
        (accepted s.replica.partition s.replica.at (length (s.replica.log ++ x ∷ [])) text ++
        map (append_to s.replica.at (written x s.replica) (length (s.replica.log ++ x ∷ [])) text) l.peers)
        ((shows.partition, real r.plan.epoch s.replica.at epoch_is is_real), all_sent (length (s.replica.log ++ x ∷ [])) length_now l.peers)
        (λ log.
        (let e = epoch_is in ap (λ n. TellsAccepted me.actor n ∷ w.told) e.is) ∙
        sym (appends_tell me.actor log s.replica.at (written x s.replica) (length (s.replica.log ++ x ∷
        [])) text l.peers (TellsAccepted me.actor (number_of s.replica.at) ∷ w.told)))
        (committed_refines next p me (replica_put s (written x s.replica)) (written_shows fits) l r (progress_now r l progress))

  pub write_refines : (text : List ℕ) → Refined c w p me (write_commanded text s)
  unfolding write_commanded
  write_refines text = go (progress_of s) refl
    where
      refused : Refined c w p me (acted s (Tell (report.Refused verb.Write reason.Full) ∷ []))
      refused = record { after = w; inv = inv; later = later_refl w; shows = shows; sent = (tt, tt); told = refl }

      by : (l : ReplicationProgress) → progress_of s ≡ Some l → (older : Bool) → (ahead : Bool) → (held : Bool) → nat_lt (length s.replica.log + 1)
          (length s.replica.log + 1) ≡ held →
          (full : Bool) → (length s.replica.log == 100000) ≡ full →
          Refined c w p me
          (write_answered text l s
          (unless older (Older s.replica.promised) s.replica (unless ahead (Gap (length s.replica.log)) s.replica
          (held_if held s.replica
          (unless full LogFull s.replica (Ok New, written (record { epoch = s.replica.at; lsn = length s.replica.log + 1; bytes = text }) s.replica))))))
      by l h true ahead held k full i = nothing_refined inv shows
      by l h false true held k full i = nothing_refined inv shows
      by l h false false true k full i = absurd (let lt = ltb-true (length s.replica.log + 1) (length s.replica.log + 1) k in omega arith)
      by l h false false false k true i = refused
      by l h false false false k false i = writes text l h (let d = eqb-false (length s.replica.log) 100000 i in let r = shows.room in omega arith)

      go : (o : Option ReplicationProgress) → progress_of s ≡ o → Refined c w p me (write_to text s o)
      go None h = record { after = w; inv = inv; later = later_refl w; shows = shows; sent = (tt, tt); told = refl }
      go (Some l) h =
          by l h (is_older s.replica.at s.replica.promised)
          (not (same_epoch s.replica.at s.replica.at) || nat_lt (length s.replica.log + 1) (length s.replica.log + 1))
          (nat_lt (length s.replica.log + 1) (length s.replica.log + 1)) refl (length s.replica.log == 100000) refl
