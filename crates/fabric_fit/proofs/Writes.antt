-- Writes keep a replica in range: at the primary, at the other members, and at a firing.
use Rattle.std.proofs.Common.{◌≡◌, ℕ, ◌+◌, ◌&&◌, List, [], ◌∷◌, ◌++◌, Option, Some, None, IsTrue, refl}
use Rattle.std.specs.Prelude.{All, Ok, Err, flat_map, map, nat_lt}
use Rattle.std.proofs.lemmas.Bool.{and_from, cond_both}
use Rattle.std.proofs.lemmas.List.Elements.{All-append, All-head, All-map, All-tail, All-weaker}
use Rattle.fabric_terms.specs.declared.message.Body.TheVariants as body
use Rattle.fabric_terms.specs.declared.record.Record.TheVariants as kept
use Rattle.fabric_terms.specs.declared.report.Report.TheVariants as report
use Rattle.fabric_terms.specs.declared.report.Reason.TheVariants as reason
use Rattle.fabric_terms.specs.declared.report.Verb.TheVariants as verb
use Rattle.fabric_terms.specs.Fields.{is_addressee, is_epoch, is_last, is_payload, is_unit, is_word}
use Rattle.frames_fit.proofs.Facts.{node_addressed}
use Rattle.ring_points.specs.declared.unit.Epoch.{Epoch}
use Rattle.ring_points.specs.declared.who.Who.{Who}
use Rattle.ring_points.specs.Epochs.{same_epoch}
use Rattle.ring_points.specs.Whos.{node_instance}
use Rattle.replica_core.specs.declared.entry.Entry.{Entry}
use Rattle.replica_core.specs.declared.refusal.Done.{Done}
use Rattle.replica_core.specs.declared.refusal.Done.TheVariants.{New, Held}
use Rattle.replica_core.specs.declared.refusal.ReplicaRefusal.TheVariants.{Gap, LogFull}
use Rattle.replica_core.specs.Calls.{Outcome, append_call}
use Rattle.replica_core.specs.Replicas.{Replica}
use Rattle.unit_rules.specs.declared.progress.PeerProgress.{PeerProgress}
use Rattle.unit_rules.specs.Deeds.{Keep, Tell, acted, still}
use Rattle.unit_rules.specs.Progress.{confirmed_by, confirmed_of, progress_of, most_confirmed}
use Rattle.unit_rules.specs.ReplicaStates.{ReplicationProgress, ReplicaState, entry_at, last_of, replica_put}
use Rattle.unit_rules.specs.Writes.{accepted, append_answered, append_received, append_to, appended_received, appended_to, commits, committed, entry_sent, progress_fired, say_appended, state_fired, write_answered, write_commanded, write_to}
use Rattle.fabric_fit.specs.Deeds.{ActedInRange, DeedInRange}
use Rattle.fabric_fit.specs.ReplicaStates.{ProgressInRange, PrimaryProgressInRange, PeerInRange, ReplicaInRange, ReplicaStateInRange}
use Rattle.fabric_fit.proofs.Calls.{OutcomeInRange, append_in_range, new_lsn}
use Rattle.fabric_fit.proofs.Copies.{found_entry, found_number, last_word}
use Rattle.fabric_fit.proofs.Deeds.{deeds_from, does_after, does_one, no_deeds, one_deed, sends, stays_in_range}
use Rattle.fabric_fit.proofs.Leads.{confirmed_by_in_range, progress_of_in_range, most_in_range}
use Rattle.fabric_fit.proofs.Promises.{last_fits, older_in_range, replica_put_in_range, unit_from}
use Rattle.fabric_fit.proofs.Telling.{entry_told}

accepted_in_range : (partition : ℕ) (epoch : Epoch) (lsn : ℕ) (text : List ℕ) → IsTrue (is_unit partition epoch) → IsTrue (is_last lsn) → IsTrue (is_payload text)
    → All DeedInRange (accepted partition epoch lsn text)
accepted_in_range partition epoch lsn text h k m =
    deeds_from (Keep (kept.Wrote partition epoch lsn text)) (Tell (report.Accepted partition epoch lsn) ∷ [])
    (and_from (is_unit partition epoch && is_last lsn) (is_payload text) (and_from (is_unit partition epoch) (is_last lsn) h k) m)
    (one_deed (Tell (report.Accepted partition epoch lsn)) (entry_told partition epoch lsn h k))

-- Append.

module _ (asker : Who) (addressed : IsTrue (is_addressee asker)) (epoch : Epoch) (fits : IsTrue (is_epoch epoch)) (lsn : ℕ) (text : List ℕ)
    (short : IsTrue (is_payload text)) (s : ReplicaState) (fine : ReplicaStateInRange s) where
  said : (r : Replica) → ReplicaInRange r → DeedInRange (say_appended asker epoch r)
  said r h =
      sends asker (body.Appended r.partition epoch (last_of r)) addressed
      (and_from (is_unit r.partition epoch) (is_word (last_of r)) (unit_from r.partition epoch h.partition fits) (last_word (last_of r) (last_fits r h)))

  said_only : (r : Replica) → ReplicaInRange r → ActedInRange ReplicaStateInRange (acted s (say_appended asker epoch r ∷ []))
  said_only r h = does_one ReplicaStateInRange s (say_appended asker epoch r) fine (said r h)

  answered_in_range : (o : Outcome Done) → OutcomeInRange o → (o.0 ≡ Ok New → IsTrue (is_last lsn)) → ActedInRange ReplicaStateInRange (append_answered asker epoch lsn text s o)
  answered_in_range (Ok New, r) h new = record {
    state = replica_put_in_range s r fine h.replica;
    deeds =
        All-append DeedInRange (accepted r.partition epoch lsn text) (say_appended asker epoch r ∷ [])
        (accepted_in_range r.partition epoch lsn text (unit_from r.partition epoch h.replica.partition fits) (new refl) short)
        (one_deed (say_appended asker epoch r) (said r h.replica));
  }
  answered_in_range (Ok Held, r) h new = said_only r h.replica
  answered_in_range (Err (Gap last), r) h new =
      cond_both (same_epoch r.at epoch) (acted s (say_appended asker epoch r ∷ [])) (still s) (ActedInRange ReplicaStateInRange)
      (λ f. said_only r h.replica) (λ f. stays_in_range ReplicaStateInRange s fine)
  answered_in_range (Err refusal, r) h new =
      record { state = fine; deeds = older_in_range asker addressed r.partition epoch (unit_from r.partition epoch h.replica.partition fits) refusal h.answer }

  pub append_received_in_range : ActedInRange ReplicaStateInRange (append_received asker epoch lsn text s)
  unfolding append_received
  append_received_in_range =
      answered_in_range (append_call epoch lsn text s.replica) (append_in_range epoch s.replica fits fine.replica lsn text short)
      (new_lsn epoch s.replica fits fine.replica lsn text)

-- What a majority has confirmed.

committed_in_range : (l : ReplicationProgress) → ProgressInRange l → (s : ReplicaState) → ReplicaStateInRange s → ActedInRange ReplicaStateInRange (committed l s)
committed_in_range l h s fine =
    let lsn = most_confirmed (confirmed_of l (last_of s.replica)) in
    cond_both (nat_lt l.committed lsn) (commits l lsn s) (still (record s { progress = Some l })) (ActedInRange ReplicaStateInRange)
    (λ f. record {
      state = record {
        replica = fine.replica;
        catch_up = fine.catch_up;
        progress = record { peers = h.peers; committed = most_in_range l (last_of s.replica) h (last_fits s.replica fine.replica) };
      };
      deeds =
          one_deed (Tell (report.Committed s.replica.partition s.replica.at lsn))
          (entry_told s.replica.partition s.replica.at lsn (unit_from s.replica.partition s.replica.at fine.replica.partition fine.replica.at)
          (most_in_range l (last_of s.replica) h (last_fits s.replica fine.replica)));
    })
    (λ f. stays_in_range ReplicaStateInRange (record s { progress = Some l }) (record { replica = fine.replica; catch_up = fine.catch_up; progress = h }))

-- Appended.

module _ (s : ReplicaState) (fine : ReplicaStateInRange s) where
  appended_in_range : (node : ℕ) (epoch : Epoch) (last : ℕ) → IsTrue (is_word last) → (o : Option ReplicationProgress) → PrimaryProgressInRange o
      → ActedInRange ReplicaStateInRange (appended_to node epoch last s o)
  appended_in_range node epoch last word None h = stays_in_range ReplicaStateInRange s fine
  appended_in_range node epoch last word (Some l) h =
      cond_both (same_epoch s.replica.at epoch) (committed (confirmed_by node last (last_of s.replica) l) s) (still s) (ActedInRange ReplicaStateInRange)
      (λ f. committed_in_range (confirmed_by node last (last_of s.replica) l)
      (confirmed_by_in_range node last (last_of s.replica) word (last_fits s.replica fine.replica) l h) s fine)
      (λ f. stays_in_range ReplicaStateInRange s fine)

  pub appended_received_in_range : (node : ℕ) (epoch : Epoch) (last : ℕ) → IsTrue (is_word last) → ActedInRange ReplicaStateInRange (appended_received node epoch last s)
  unfolding appended_received
  appended_received_in_range node epoch last word = appended_in_range node epoch last word (progress_of s) (progress_of_in_range s fine)

-- Sending an entry to another member.

append_to_in_range : (r : Replica) → ReplicaInRange r → (lsn : ℕ) → IsTrue (is_last lsn) → (text : List ℕ) → IsTrue (is_payload text) → (p : PeerProgress) → PeerInRange p
    → DeedInRange (append_to r.at r lsn text p)
append_to_in_range r h lsn short text m p k =
    let u = is_unit r.partition r.at in
    sends (node_instance p.node 0) (body.Append r.partition r.at lsn text) (node_addressed (node_instance p.node 0) k.node refl)
    (and_from (u && is_word lsn) (is_payload text) (and_from u (is_word lsn) (unit_from r.partition r.at h.partition h.at) (last_word lsn short)) m)

-- Write.

module _ (text : List ℕ) (short : IsTrue (is_payload text)) (s : ReplicaState) (fine : ReplicaStateInRange s) where
  written_in_range : (l : ReplicationProgress) → ProgressInRange l → (o : Outcome Done) → OutcomeInRange o → ActedInRange ReplicaStateInRange (write_answered text l s o)
  written_in_range l h (Err LogFull, r) k = does_one ReplicaStateInRange s (Tell (report.Refused verb.Write reason.Full)) fine tt
  written_in_range l h (Err refusal, r) k = stays_in_range ReplicaStateInRange s fine
  written_in_range l h (Ok done, r) k =
      let last = last_fits r k.replica in
      does_after ReplicaStateInRange (accepted r.partition r.at (last_of r) text ++ map (append_to r.at r (last_of r) text) l.peers) (committed l (replica_put s r))
      (All-append DeedInRange (accepted r.partition r.at (last_of r) text) (map (append_to r.at r (last_of r) text) l.peers)
      (accepted_in_range r.partition r.at (last_of r) text (unit_from r.partition r.at k.replica.partition k.replica.at) last short)
      (All-map DeedInRange (append_to r.at r (last_of r) text) l.peers
      (All-weaker PeerInRange (λ p. DeedInRange (append_to r.at r (last_of r) text p)) (append_to_in_range r k.replica (last_of r) last text short) l.peers h.peers)))
      (committed_in_range l h (replica_put s r) (replica_put_in_range s r fine k.replica))

  write_to_in_range : (o : Option ReplicationProgress) → PrimaryProgressInRange o → ActedInRange ReplicaStateInRange (write_to text s o)
  write_to_in_range None h = does_one ReplicaStateInRange s (Tell (report.Refused verb.Write reason.NotPrimary)) fine tt
  write_to_in_range (Some l) h =
      written_in_range l h (append_call s.replica.at (last_of s.replica + 1) text s.replica)
      (append_in_range s.replica.at s.replica fine.replica.at fine.replica (last_of s.replica + 1) text short)

  pub write_commanded_in_range : ActedInRange ReplicaStateInRange (write_commanded text s)
  unfolding write_commanded
  write_commanded_in_range = write_to_in_range (progress_of s) (progress_of_in_range s fine)

-- A firing.

module _ (r : Replica) (fine : ReplicaInRange r) where
  entry_in_range : (p : PeerProgress) → PeerInRange p → (o : Option Entry) → entry_at p.next r.log ≡ o → All DeedInRange (entry_sent r p o)
  entry_in_range p h None e = no_deeds
  entry_in_range p h (Some entry) e =
      let named = found_entry p.next r.log entry e fine.log in
      one_deed (append_to r.at r p.next entry.bytes p) (append_to_in_range r fine p.next (found_number p.next r.log entry e fine.log) entry.bytes named.bytes p h)

  each_in_range : (ps : List PeerProgress) → All PeerInRange ps → All DeedInRange (flat_map (λ p. entry_sent r p (entry_at p.next r.log)) ps)
  each_in_range [] h = no_deeds
  each_in_range (p ∷ ps) h =
      All-append DeedInRange (entry_sent r p (entry_at p.next r.log)) (flat_map (λ p. entry_sent r p (entry_at p.next r.log)) ps)
      (entry_in_range p (All-head PeerInRange p ps h) (entry_at p.next r.log) refl) (each_in_range ps (All-tail PeerInRange p ps h))

  progress_fired_in_range : (o : Option ReplicationProgress) → PrimaryProgressInRange o → All DeedInRange (progress_fired r o)
  progress_fired_in_range None h = no_deeds
  progress_fired_in_range (Some l) h = each_in_range l.peers h.peers

pub state_fired_in_range : (s : ReplicaState) → ReplicaStateInRange s → All DeedInRange (state_fired s)
unfolding state_fired
state_fired_in_range s fine = progress_fired_in_range s.replica fine.replica (progress_of s) (progress_of_in_range s fine)
