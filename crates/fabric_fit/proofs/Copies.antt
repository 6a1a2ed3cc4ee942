-- Taking the log of an epoch keeps a replica in range: Sync, Fetch and Piece.
use Rattle.std.proofs.Common.{◌≡◌, ℕ, ◌+◌, ◌-◌, Bool, true, false, ◌&&◌, ◌||◌, List, [], ◌∷◌, length, Option, Some, None, IsTrue, refl, arith}
use Rattle.std.specs.Prelude.{◌==◌, All, Ok, Err, nat_le, not, slice_get, if◌then◌else◌}
use Rattle.std.proofs.lemmas.Bool.{and_from, and_parts, cond_both, leb-true, le-leb}
use Rattle.std.proofs.lemmas.Option.{slice_get_within}
use Rattle.fabric_terms.specs.declared.message.Body.TheVariants as body
use Rattle.fabric_terms.specs.declared.record.Record.TheVariants as kept
use Rattle.fabric_terms.specs.declared.report.Report.TheVariants as report
use Rattle.fabric_terms.specs.Fields.{is_addressee, is_epoch, is_last, is_payload, is_unit, is_word}
use Rattle.frames_fit.proofs.Each.{got_all}
use Rattle.frames_fit.proofs.Facts.{node_addressed, word_from}
use Rattle.ring_points.specs.declared.unit.Epoch.{Epoch}
use Rattle.ring_points.specs.declared.who.Who.{Who}
use Rattle.ring_points.specs.Epochs.{same_epoch}
use Rattle.ring_points.specs.Whos.{node_instance}
use Rattle.replica_core.specs.declared.entry.Entry.{Entry}
use Rattle.replica_core.specs.declared.refusal.Done.{Done}
use Rattle.replica_core.specs.Calls.{Outcome, adopt_call, adopt_own_call, idle_call, promise_call}
use Rattle.replica_core.specs.Replicas.{Replica}
use Rattle.unit_rules.specs.declared.progress.CatchUp.{CatchUp}
use Rattle.unit_rules.specs.Copies.{adoption, copy_begun, copy_goes_on, entry_given, fetch_next, fetch_received, is_wanted, log_adopted, log_taken, nothing_adopted, own_adopted, piece_collected, piece_for, piece_received, sync_answered, sync_received, sync_taken}
use Rattle.unit_rules.specs.Deeds.{Deed, Keep, Send, Tell, acted, still}
use Rattle.unit_rules.specs.Promises.{raise_told}
use Rattle.unit_rules.specs.ReplicaStates.{ReplicaState, entry_at, last_of, replica_put}
use Rattle.fabric_fit.specs.Deeds.{ActedInRange, DeedInRange}
use Rattle.fabric_fit.specs.ReplicaStates.{EntryInRange, LogInRange, ReplicaInRange, ReplicaStateInRange, CatchUpInRange, TookInRange}
use Rattle.fabric_fit.proofs.Answers.{sender_addressed}
use Rattle.fabric_fit.proofs.Calls.{OutcomeInRange, adopt_in_range, adopt_own_in_range, idle_in_range, promise_in_range}
use Rattle.fabric_fit.proofs.Deeds.{deeds_from, does_after, does_one, one_deed, sends, stays_in_range}
use Rattle.fabric_fit.proofs.Promises.{last_fits, older_in_range, raise_in_range, replica_put_in_range, unit_from}
use Rattle.fabric_fit.proofs.Telling.{entry_told}

pub last_word : (n : ℕ) → IsTrue (is_last n) → IsTrue (is_word n)
last_word n h = let few = leb-true n 100000 h in word_from n (omega arith)

-- an entry that is found in a log
pub found_entry : (lsn : ℕ) (log : List Entry) (entry : Entry) → entry_at lsn log ≡ Some entry → LogInRange log → EntryInRange entry
found_entry lsn log entry e h = by (nat_le 1 lsn) e
  where
    by : (b : Bool) → (let o : Option Entry = slice_get log (lsn - 1) in if b then o else None) ≡ Some entry → EntryInRange entry
    by true f = got_all EntryInRange log (lsn - 1) entry h.entries f
    by false f = absurd (cc)

-- and its number
pub found_number : (lsn : ℕ) (log : List Entry) (entry : Entry) → entry_at lsn log ≡ Some entry → LogInRange log → IsTrue (is_last lsn)
found_number lsn log entry e h = by (nat_le 1 lsn) refl e
  where
    by : (b : Bool) → nat_le 1 lsn ≡ b → (let o : Option Entry = slice_get log (lsn - 1) in if b then o else None) ≡ Some entry → IsTrue (is_last lsn)
    by true f g =
        let within = slice_get_within log (lsn - 1) entry g in
        let room = h.room in
        le-leb lsn 100000 (omega arith)
    by false f g = absurd (cc)

-- The log is that of the epoch now.

module _ (t : CatchUp) (took : CatchUpInRange t) where
  asker : IsTrue (is_addressee t.asker)
  asker = sender_addressed t.asker took.asker

  module _ (r : Replica) (fine : ReplicaInRange r) where
    unit : IsTrue (is_unit r.partition t.epoch)
    unit = unit_from r.partition t.epoch fine.partition took.epoch

    unit_and_last : IsTrue (is_unit r.partition t.epoch && is_word t.last)
    unit_and_last = and_from (is_unit r.partition t.epoch) (is_word t.last) unit (last_word t.last took.last)

    said : All DeedInRange (Send t.asker (body.Adopted r.partition t.epoch t.last) ∷ [])
    said = one_deed (Send t.asker (body.Adopted r.partition t.epoch t.last)) (sends t.asker (body.Adopted r.partition t.epoch t.last) asker unit_and_last)

    adoption_in_range : (is_own : Bool) → All DeedInRange (adoption r.partition t is_own)
    adoption_in_range is_own =
        cond_both (t.last == 0) (nothing_adopted r.partition t) (log_adopted r.partition t is_own) (All DeedInRange)
        (λ f. deeds_from (Keep (kept.AdoptedAt r.partition t.epoch t.last false)) (Send t.asker (body.Adopted r.partition t.epoch t.last) ∷ []) unit_and_last said)
        (λ f. deeds_from (Keep (kept.AdoptedAt r.partition t.epoch t.last is_own))
        (Tell (report.Adopted r.partition t.epoch t.last) ∷ Send t.asker (body.Adopted r.partition t.epoch t.last) ∷ []) unit_and_last
        (deeds_from (Tell (report.Adopted r.partition t.epoch t.last)) (Send t.asker (body.Adopted r.partition t.epoch t.last) ∷ [])
        (entry_told r.partition t.epoch t.last unit took.last) said))

    fetch_in_range : DeedInRange (fetch_next t r)
    fetch_in_range =
        let few = fine.collected.room in
        sends (node_instance t.origin 0) (body.Fetch r.partition t.epoch (length r.collected + 1)) (node_addressed (node_instance t.origin 0) took.origin refl)
        (and_from (is_unit r.partition t.epoch) (is_word (length r.collected + 1)) unit (word_from (length r.collected + 1) (omega arith)))

    goes_on_in_range : (lsn : ℕ) → All DeedInRange (copy_goes_on t lsn r)
    goes_on_in_range lsn =
        cond_both (lsn == t.last) (adoption r.partition t false) (fetch_next t r ∷ []) (All DeedInRange)
        (λ f. adoption_in_range false) (λ f. one_deed (fetch_next t r) fetch_in_range)

  -- Sync.

  module _ (s : ReplicaState) (fine : ReplicaStateInRange s) where
    own_in_range : (o : Outcome Done) → OutcomeInRange o → ActedInRange ReplicaStateInRange (own_adopted t s o)
    own_in_range (Err refusal, r) h = stays_in_range ReplicaStateInRange s fine
    own_in_range (Ok done, r) h = record { state = replica_put_in_range s r fine h.replica; deeds = adoption_in_range r h.replica true }

    log_in_range : (me : ℕ) → ActedInRange ReplicaStateInRange (log_taken me t s)
    log_in_range me =
        cond_both (t.last == 0 || t.origin == me) (own_adopted t s (adopt_own_call t.epoch t.last s.replica)) (acted s (fetch_next t s.replica ∷ []))
        (ActedInRange ReplicaStateInRange)
        (λ f. own_in_range (adopt_own_call t.epoch t.last s.replica) (adopt_own_in_range t.epoch s.replica took.epoch fine.replica t.last))
        (λ f. does_one ReplicaStateInRange s (fetch_next t s.replica) fine (fetch_in_range s.replica fine.replica))

  begun_in_range : (me : ℕ) (s : ReplicaState) → ReplicaStateInRange s → ActedInRange ReplicaStateInRange (copy_begun me t s)
  begun_in_range me s fine =
      let now : ReplicaState = record s { replica = (idle_call t.epoch s.replica).1; catch_up = Some t } in
      let idle = idle_in_range t.epoch s.replica took.epoch fine.replica in
      log_in_range now (record { replica = idle.replica; catch_up = took; progress = fine.progress }) me

  taken_in_range : (me : ℕ) (s : ReplicaState) → ReplicaStateInRange s → ActedInRange ReplicaStateInRange (sync_taken me t s)
  taken_in_range me s fine =
      let says : Deed = Send t.asker (body.Adopted s.replica.partition t.epoch (last_of s.replica)) in
      cond_both (same_epoch s.replica.at t.epoch) (acted s (says ∷ [])) (copy_begun me t s) (ActedInRange ReplicaStateInRange)
      (λ f. does_one ReplicaStateInRange s says fine
      (sends t.asker (body.Adopted s.replica.partition t.epoch (last_of s.replica)) asker
      (and_from (is_unit s.replica.partition t.epoch) (is_word (last_of s.replica)) (unit s.replica fine.replica)
      (last_word (last_of s.replica) (last_fits s.replica fine.replica)))))
      (λ f. begun_in_range me s fine)

  synced_in_range : (me : ℕ) (s : ReplicaState) → ReplicaStateInRange s → (o : Outcome Done) → OutcomeInRange o → ActedInRange ReplicaStateInRange (sync_answered me t s o)
  synced_in_range me s fine (Err refusal, r) h =
      record { state = fine; deeds = older_in_range t.asker asker r.partition t.epoch (unit r h.replica) refusal h.answer }
  synced_in_range me s fine (Ok done, r) h =
      does_after ReplicaStateInRange (raise_told r.partition t.epoch done) (sync_taken me t (replica_put s r))
      (raise_in_range t.asker asker r.partition t.epoch (unit r h.replica) done) (taken_in_range me (replica_put s r) (replica_put_in_range s r fine h.replica))

  pub sync_received_in_range : (me : ℕ) (s : ReplicaState) → ReplicaStateInRange s → ActedInRange ReplicaStateInRange (sync_received me t s)
  unfolding sync_received
  sync_received_in_range me s fine = synced_in_range me s fine (promise_call t.epoch s.replica) (promise_in_range t.epoch s.replica took.epoch fine.replica)

  -- Piece.

  collected_in_range : (entry : Entry) → EntryInRange entry → (s : ReplicaState) → ReplicaStateInRange s → (o : Outcome Done) → OutcomeInRange o
      → ActedInRange ReplicaStateInRange (piece_collected t entry s o)
  collected_in_range entry named s fine (Err refusal, r) h = stays_in_range ReplicaStateInRange s fine
  collected_in_range entry named s fine (Ok done, r) h =
      let u = is_unit r.partition t.epoch in
      record {
        state = replica_put_in_range s r fine h.replica;
        deeds =
            deeds_from (Keep (kept.Incoming r.partition t.epoch entry.lsn entry.epoch entry.bytes)) (copy_goes_on t entry.lsn r)
            (and_from ((u && is_last entry.lsn) && is_epoch entry.epoch) (is_payload entry.bytes)
            (and_from (u && is_last entry.lsn) (is_epoch entry.epoch) (and_from u (is_last entry.lsn) (unit r h.replica) named.lsn) named.epoch) named.bytes)
            (goes_on_in_range r h.replica entry.lsn);
      }

-- an entry that comes, of which the number is not yet known to be one of a log
module _ (epoch : Epoch) (entry : Entry) (of : IsTrue (is_epoch entry.epoch)) (text : IsTrue (is_payload entry.bytes)) (s : ReplicaState) (fine : ReplicaStateInRange s) where
  wanted_lsn : (t : CatchUp) → CatchUpInRange t → is_wanted t epoch entry.lsn s.replica ≡ true → IsTrue (is_last entry.lsn)
  wanted_lsn t took f =
      let from : Bool = (same_epoch t.epoch epoch && not (same_epoch s.replica.at epoch)) && nat_le 1 entry.lsn in
      let within = leb-true entry.lsn t.last (and_parts from (nat_le entry.lsn t.last) f).1 in
      let few = leb-true t.last 100000 took.last in
      le-leb entry.lsn 100000 (omega arith)

  piece_for_in_range : (o : Option CatchUp) → TookInRange o → ActedInRange ReplicaStateInRange (piece_for epoch entry s o)
  piece_for_in_range None h = stays_in_range ReplicaStateInRange s fine
  piece_for_in_range (Some t) h =
      cond_both (is_wanted t epoch entry.lsn s.replica) (piece_collected t entry s (adopt_call t.epoch entry t.last s.replica)) (still s)
      (ActedInRange ReplicaStateInRange)
      (λ f. let named : EntryInRange entry = record { epoch = of; lsn = wanted_lsn t h f; bytes = text } in
      collected_in_range t h entry named s fine (adopt_call t.epoch entry t.last s.replica) (adopt_in_range t.epoch s.replica h.epoch fine.replica entry named t.last))
      (λ f. stays_in_range ReplicaStateInRange s fine)

  pub piece_received_in_range : ActedInRange ReplicaStateInRange (piece_received epoch entry s)
  unfolding piece_received
  piece_received_in_range = piece_for_in_range s.catch_up fine.catch_up

-- Fetch.

module _ (asker : Who) (addressed : IsTrue (is_addressee asker)) (epoch : Epoch) (fits : IsTrue (is_epoch epoch)) (s : ReplicaState) (fine : ReplicaStateInRange s) where
  given_in_range : (o : Option Entry) → ((entry : Entry) → o ≡ Some entry → EntryInRange entry) → ActedInRange ReplicaStateInRange (entry_given asker epoch s o)
  given_in_range None h = stays_in_range ReplicaStateInRange s fine
  given_in_range (Some entry) h =
      let b = body.Piece s.replica.partition epoch entry.lsn entry.epoch entry.bytes in
      let named = h entry refl in
      let u = is_unit s.replica.partition epoch in
      does_one ReplicaStateInRange s (Send asker b) fine
      (sends asker b addressed
      (and_from ((u && is_word entry.lsn) && is_epoch entry.epoch) (is_payload entry.bytes)
      (and_from (u && is_word entry.lsn) (is_epoch entry.epoch)
      (and_from u (is_word entry.lsn) (unit_from s.replica.partition epoch fine.replica.partition fits) (last_word entry.lsn named.lsn)) named.epoch) named.bytes))

  pub fetch_received_in_range : (lsn : ℕ) → ActedInRange ReplicaStateInRange (fetch_received asker epoch lsn s)
  unfolding fetch_received
  fetch_received_in_range lsn =
      cond_both (same_epoch s.replica.promised epoch) (entry_given asker epoch s (entry_at lsn s.replica.log)) (still s) (ActedInRange ReplicaStateInRange)
      (λ f. given_in_range (entry_at lsn s.replica.log) (λ entry e. found_entry lsn s.replica.log entry e fine.replica.log))
      (λ f. stays_in_range ReplicaStateInRange s fine)
