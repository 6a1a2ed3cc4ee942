-- The row of Append.
use Rattle.std.proofs.Common.{◌≡◌, ℕ, ◌+◌, ◌≤◌, Bool, true, false, ◌||◌, ◌==◌, nat_lt, List, [], ◌∷◌, ◌++◌, length, Ok, refl, sym, ap, ◌∙◌, subst, inl, ⊎_elim, arith}
use Rattle.std.proofs.lemmas.Bool.{ltb-false, eqb-false}
use Rattle.std.proofs.lemmas.List.{length-append}
use Rattle.std.specs.Prelude.{not, if◌then◌else◌}
use Rattle.ring_points.specs.declared.unit.Epoch.{Epoch}
use Rattle.ring_points.specs.declared.who.Who.{Who}
use Rattle.ring_points.specs.Epochs.{is_older, same_epoch}
use Rattle.replica_core.specs.declared.entry.Entry.{Entry}
use Rattle.replica_core.specs.declared.refusal.Done.TheVariants.{New}
use Rattle.replica_core.specs.declared.refusal.ReplicaRefusal.TheVariants.{Older, Gap, LogFull}
use Rattle.replica_core.specs.Replicas.{written}
use Rattle.replica_core.specs.Calls.{unless, held_if}
use Rattle.epoch_machine.specs.Messages.{Append}
use Rattle.epoch_machine.specs.Plans.{Plan}
use Rattle.epoch_machine.specs.Settings.{Settings}
use Rattle.epoch_machine.specs.World.{World, TellsAccepted}
use Rattle.epoch_machine.specs.Deeds.{Appends, SaysAppended}
use Rattle.epoch_machine.specs.Guards.{HasAdopted, Can}
use Rattle.epoch_machine.specs.Effects.{after}
use Rattle.epoch_machine.specs.Invariant.{Invariant}
use Rattle.epoch_machine.proofs.Replaced.{put_at}
use Rattle.epoch_machine.proofs.Prefixes.{prefix_length}
use Rattle.epoch_machine.proofs.Kept.{one_sync, sync_plan, positive}
use Rattle.epoch_machine.proofs.Histories.{deed_keeps}
use Rattle.unit_rules.specs.Deeds.{acted, still}
use Rattle.unit_rules.specs.ReplicaStates.{ReplicaState}
use Rattle.unit_rules.specs.Writes.{append_answered, append_received, say_appended}
use Rattle.epoch_refinement.specs.Epochs.{IsEpoch}
use Rattle.epoch_refinement.specs.Facts.{of_node, Later, is_append, Has}
use Rattle.epoch_refinement.specs.Refined.{Refined}
use Rattle.epoch_refinement.specs.ReplicaStates.{ShowsReplicaState}
use Rattle.epoch_refinement.specs.Shown.{ShownAppend}
use Rattle.epoch_refinement.proofs.Doing.{nothing_refined}
use Rattle.epoch_refinement.proofs.Numbers.{real, older_not, same_epoch-true}
use Rattle.epoch_refinement.proofs.Lasting.{deed_later, later_refl, later_trans, sync_later, progress_longer}
use Rattle.epoch_refinement.proofs.Promising.{shows_later, numbered_push}

module _ {c : Settings} {w : World} (inv : Invariant c w) (p : ℕ) (me : Who) (s : ReplicaState) (shows : ShowsReplicaState w p me.actor s) where
  module _ (from : Who) (e : Epoch) (lsn : ℕ) (text : List ℕ) (append : ShownAppend w e lsn text)
      (not_older : is_older e s.replica.promised ≡ false) (at : same_epoch s.replica.at e ≡ true) where
    joined : IsEpoch (w.joined me.actor) e
    joined = subst (IsEpoch (w.joined me.actor)) (same_epoch-true s.replica.at e at) shows.joined

    joined_is : w.joined me.actor ≡ append.plan.epoch
    joined_is = let a = append.epoch in let b = joined in b.is ∙ sym a.is

    has_adopted : HasAdopted w me.actor
    has_adopted =
        let le = older_not e s.replica.promised append.epoch shows.promised not_older in
        let ge = inv.logs.below me.actor in
        let j = joined_is in omega arith

    -- nothing is new, and the last entry is told
    unchanged : Refined c w p me (acted s (say_appended from e s.replica ∷ []))
    unchanged = record {
      after = after w (SaysAppended me.actor);
      inv = deed_keeps inv (SaysAppended me.actor) has_adopted;
      later = deed_later w (SaysAppended me.actor);
      shows = shows_later (deed_later w (SaysAppended me.actor)) refl refl refl refl refl shows;
      sent = (
        shows.partition,
        (w.joined me.actor, joined, inl (ap (λ (l : List Entry). record { node = me.actor; epoch = w.joined me.actor; last = length l }) (sym shows.log))),
        tt,
      );
      told = refl;
    }

    entry : Entry
    entry = record { epoch = e; lsn = lsn; bytes = text }

    abbrev image : Append
    image = record { epoch = append.plan.epoch; place = length (w.log me.actor); entry = record { epoch = e; lsn = lsn; bytes = text } }

    -- an entry that the log lacks is none of the base
    was_sent : lsn ≡ length (w.log me.actor) + 1 → Has w (is_append image)
    was_sent next = ⊎_elim
        (λ le. absurd (short le))
        (λ h.
        let same : h.0 ≡ length (w.log me.actor) = let q = h.1 in omega arith in
        subst
        (λ k. Has w (is_append (record { epoch = append.plan.epoch; place = k; entry = record { epoch = e; lsn = lsn; bytes = text } }))) same h.2)
        append.is
      where
        short : lsn ≤ length append.plan.base → ⊥
        short le = ⊎_elim
            (λ none.
            let pos = positive inv append.plan (sync_plan inv append.plan append.synced) in
            let z = none.0 in let j = joined_is in omega arith)
            (λ l.
            let one : l.plan ≡ append.plan =
            one_sync inv l.plan append.plan l.synced append.synced (l.epoch_is ∙ joined_is) in
            let n = prefix_length l.begins in
            let b = ap (λ (q : Plan). length q.base) one in omega arith)
            (inv.logs.sound me.actor)

    can_append : lsn ≡ length (w.log me.actor) + 1 → Can c w (Appends me.actor image)
    can_append next = (was_sent next, joined_is, sym has_adopted ∙ joined_is, refl)

    abbrev v : World
    v = after w (Appends me.actor image)

    longer : v.log me.actor ≡ s.replica.log ++ (record { epoch = e; lsn = lsn; bytes = text } ∷ [])
    longer =
        put_at w.log me.actor (w.log me.actor ++ (record { epoch = e; lsn = lsn; bytes = text } ∷ [])) ∙
        ap (λ l. l ++ (record { epoch = e; lsn = lsn; bytes = text } ∷ [])) shows.log

    longer_length : length (s.replica.log ++ (record { epoch = e; lsn = lsn; bytes = text } ∷ [])) ≡ length s.replica.log + 1
    longer_length = length-append s.replica.log (record { epoch = e; lsn = lsn; bytes = text } ∷ [])

    all : Later (of_node me.actor) w (after v (SaysAppended me.actor))
    all = later_trans (deed_later w (Appends me.actor image)) (deed_later v (SaysAppended me.actor))

    accepted : lsn ≡ length (w.log me.actor) + 1 → length s.replica.log + 1 ≤ 100000 →
        Refined c w p me (append_answered from e lsn text s (Ok New, written (record { epoch = e; lsn = lsn; bytes = text }) s.replica))
    accepted next fits = record {
      after = after v (SaysAppended me.actor);
      inv = deed_keeps (deed_keeps inv (Appends me.actor image) (can_append next)) (SaysAppended me.actor) has_adopted;
      later = all;
      shows = record {
        partition = shows.partition;
        promised = shows.promised;
        joined = shows.joined;
        log = longer;
        room = let n = longer_length in omega arith;
        collected = shows.collected;
        taken = λ t h. sync_later all (shows.taken t h);
        reached = shows.reached;
        numbered = numbered_push s.replica.log (record { epoch = e; lsn = lsn; bytes = text }) (next ∙ ap (λ l. length l + 1) shows.log)
            (let b = joined in b.small) shows.numbered;
        numbered_collected = shows.numbered_collected;
        idle = shows.idle;
        progress = λ l h. let d = shows.progress l h in let i = d.1 in (d.0, progress_longer all i.role (let n = longer_length in omega arith) i);
      };
      sent = (
        (shows.partition, real append.plan.epoch e append.epoch (positive inv append.plan (sync_plan inv append.plan append.synced))),
        (
          shows.partition,
          (w.joined me.actor, joined, inl (ap (λ (l : List Entry). record { node = me.actor; epoch = w.joined me.actor; last = length l }) (sym longer))),
          tt,
        ),
      );
      told = ap (λ k. TellsAccepted me.actor k ∷ w.told) (let a = append.epoch in a.is);
    }

  pub append_refines : (from : Who) (e : Epoch) (lsn : ℕ) (text : List ℕ) → ShownAppend w e lsn text → Refined c w p me (append_received from e lsn text s)
  unfolding append_received
  append_refines from e lsn text append =
      go (is_older e s.replica.promised) refl (same_epoch s.replica.at e) refl (nat_lt (length s.replica.log + 1) lsn) refl
      (nat_lt lsn (length s.replica.log + 1)) refl (length s.replica.log == 100000) refl
    where
      -- what is said where entries are missing
      said : is_older e s.replica.promised ≡ false → (b : Bool) → same_epoch s.replica.at e ≡ b →
          Refined c w p me (if b then acted s (say_appended from e s.replica ∷ []) else still s)
      said h true i = unchanged from e lsn text append h i
      said h false i = nothing_refined inv shows

      go : (older : Bool) → is_older e s.replica.promised ≡ older → (at : Bool) → same_epoch s.replica.at e ≡ at → (ahead : Bool) →
          nat_lt (length s.replica.log + 1) lsn ≡ ahead → (held : Bool) → nat_lt lsn (length s.replica.log + 1) ≡ held →
          (full : Bool) → (length s.replica.log == 100000) ≡ full →
          Refined c w p me
          (append_answered from e lsn text s
          (unless older (Older s.replica.promised) s.replica (unless (not at || ahead) (Gap (length s.replica.log)) s.replica
          (held_if held s.replica
          (unless full LogFull s.replica (Ok New, written (record { epoch = e; lsn = lsn; bytes = text }) s.replica))))))
      go true h at i ahead j held k full l = record {
        after = w;
        inv = inv;
        later = later_refl w;
        shows = shows;
        sent = (shows.partition, let q = shows.promised in q.small, tt);
        told = refl;
      }
      go false h false i ahead j held k full l = said h (same_epoch s.replica.at e) refl
      go false h true i true j held k full l = said h (same_epoch s.replica.at e) refl
      go false h true i false j true k full l = unchanged from e lsn text append h i
      go false h true i false j false k true l = nothing_refined inv shows
      go false h true i false j false k false l =
          accepted from e lsn text append h i
          (let a = ltb-false (length s.replica.log + 1) lsn j in let b = ltb-false lsn (length s.replica.log + 1) k in let l = ap length shows.log in
          omega arith)
          (let d = eqb-false (length s.replica.log) 100000 l in let r = shows.room in omega arith)
