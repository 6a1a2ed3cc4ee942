-- Where the row of Sync records anything, records name the replica; and it takes no log that has no room.
use Rattle.std.proofs.Common.{◌≡◌, ◌⊎◌, inl, inr, ⊎_elim, ℕ, ◌≤◌, Bool, true, false, ◌==◌, ◌||◌, [], ◌∷◌, Some, Ok, Err, refl, sym, ap, ◌∙◌, subst}
use Rattle.std.specs.Prelude.{if◌then◌else◌}
use Rattle.std.proofs.lemmas.Option.{same_Some}
use Rattle.ring_points.specs.Limits.{most_log_entries}
use Rattle.ring_points.specs.Epochs.{is_older, same_epoch}
use Rattle.fabric_terms.specs.declared.message.Body.TheVariants as body
use Rattle.replica_core.specs.declared.refusal.Done.{Done}
use Rattle.replica_core.specs.declared.refusal.Done.TheVariants.{New}
use Rattle.replica_core.specs.declared.refusal.ReplicaRefusal.TheVariants.{Older}
use Rattle.replica_core.specs.Calls.{Outcome, unless, held_if, idle_call, adopt_own_call}
use Rattle.replica_core.specs.Histories.{AdoptOwn, taken_epoch}
use Rattle.replica_core.specs.Laws.{IsNotAhead}
use Rattle.replica_core.specs.Replicas.{Replica, first_epoch, raised}
use Rattle.replica_core.proofs.Orders.{none_falls, same_is}
use Rattle.replica_core.proofs.Taken.{promising}
use Rattle.unit_rules.specs.declared.progress.CatchUp.{CatchUp}
use Rattle.unit_rules.specs.Copies.{fetch_next, own_adopted, log_taken, copy_begun, sync_taken, sync_answered, sync_received}
use Rattle.unit_rules.specs.Deeds.{Send, Acted, acted, records_of}
use Rattle.unit_rules.specs.ReplicaStates.{ReplicaState, replica_put, last_of}
use Rattle.replica_records.specs.Kept.{without_role}
use Rattle.replica_records.proofs.Naming.{not_first, promised_named}
use Rattle.replica_records.proofs.Promising.{idle_same}
use Rattle.replica_records.proofs.Recorded.{left}
use Rattle.replica_records.proofs.Rows.{HasRoom, Stood}

module _ (me : ℕ) (t : CatchUp) (small : t.last ≤ most_log_entries) where
  -- the epoch is promised, and if anything is recorded it is not the first
  record Promised (a : Acted ReplicaState) : Type 0 where
    room : HasRoom a.state
    promised : a.state.replica.promised ≡ t.epoch
    above : (records_of a.deeds ≡ []) ⊎ (same_epoch t.epoch first_epoch ≡ false)

  own_promised : (u : ReplicaState) → HasRoom u → IsNotAhead u.replica → u.replica.promised ≡ t.epoch → same_epoch t.epoch first_epoch ≡ false →
      (o : Outcome Done) → adopt_own_call t.epoch t.last u.replica ≡ o → Promised (own_adopted t u o)
  own_promised u room behind promised above (Err why, r) i = record { room = room; promised = promised; above = inr above }
  own_promised u room behind promised above (Ok d, r) i = record {
    room = room;
    promised =
        sym (ap (λ (o : Outcome Done). o.1.promised) i)
        ∙ promising (AdoptOwn t.epoch t.last) u.replica t.epoch behind (ap (λ (o : Outcome Done). taken_epoch t.epoch o.0) i);
    above = inr above;
  }

  log_promised : (u : ReplicaState) → HasRoom u → IsNotAhead u.replica → u.replica.promised ≡ t.epoch → same_epoch t.epoch first_epoch ≡ false →
      Promised (log_taken me t u)
  log_promised u room behind promised above = go (t.last == 0 || t.origin == me)
    where
      go : (b : Bool) → Promised (if b then own_adopted t u (adopt_own_call t.epoch t.last u.replica) else acted u (fetch_next t u.replica ∷ []))
      go true = own_promised u room behind promised above (adopt_own_call t.epoch t.last u.replica) refl
      go false = record { room = room; promised = promised; above = inr above }

  taken_sync : (s : ReplicaState) → HasRoom s → IsNotAhead s.replica → s.replica.promised ≡ t.epoch → Promised (sync_taken me t s)
  taken_sync s room behind promised = go (same_epoch s.replica.at t.epoch) refl
    where
      same : without_role (left (idle_call t.epoch s.replica)) ≡ without_role s.replica
      same = subst (λ e. without_role (left (idle_call e s.replica)) ≡ without_role s.replica) promised (idle_same s.replica)

      go : (b : Bool) → same_epoch s.replica.at t.epoch ≡ b →
          Promised
          (if b then acted s (Send t.asker (body.Adopted s.replica.partition t.epoch (last_of s.replica)) ∷ []) else copy_begun me t s)
      go true i = record { room = room; promised = promised; above = inl refl }
      go false i =
          log_promised (record s { replica = left (idle_call t.epoch s.replica); catch_up = Some t })
          (λ u h. subst (λ (z : CatchUp). z.last ≤ most_log_entries) (same_Some t u h) small)
          (ap (λ (r : Replica). is_older r.promised r.at) same ∙ behind)
          (ap (λ (r : Replica). r.promised) same ∙ promised)
          (not_first s.replica.at t.epoch (subst (λ e. is_older e s.replica.at ≡ false) promised behind) i)

  stood : (a : Acted ReplicaState) → Promised a → Stood a
  stood a p = record { room = p.room; named = ⊎_elim (λ none. inl none) (λ above. inr (promised_named t.epoch a.state.replica p.promised above)) p.above }

  pub sync_stood : (s : ReplicaState) → HasRoom s → IsNotAhead s.replica → Stood (sync_received me t s)
  unfolding sync_received
  sync_stood s room behind = go (is_older t.epoch s.replica.promised) refl (same_epoch s.replica.promised t.epoch) refl
    where
      go : (older : Bool) → is_older t.epoch s.replica.promised ≡ older → (same : Bool) → same_epoch s.replica.promised t.epoch ≡ same →
          Stood
          (sync_answered me t s
          (unless older (Older s.replica.promised) s.replica (held_if same s.replica (Ok New, raised t.epoch s.replica))))
      go true h same i = record { room = room; named = inl refl }
      go false h true i = stood (sync_taken me t s) (taken_sync s room behind (same_is s.replica.promised t.epoch i))
      go false h false i =
          let u : ReplicaState = replica_put s (raised t.epoch s.replica) in
          let p : Promised (sync_taken me t u) = taken_sync u room (none_falls s.replica.at s.replica.promised t.epoch behind h) refl in
          record {
            room = p.room;
            named = inr
                (promised_named t.epoch (sync_taken me t u).state.replica p.promised (not_first s.replica.promised t.epoch h i));
          }
