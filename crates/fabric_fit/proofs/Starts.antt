-- The replicas with which a node starts are in range, where its records are.
use Rattle.std.proofs.Common.{◌≡◌, ℕ, Bool, ◌&&◌, ◌||◌, List, [], ◌∷◌, Option, Some, None, IsTrue, refl}
use Rattle.std.specs.Prelude.{◌==◌, All, unwrap_or}
use Rattle.std.proofs.lemmas.Bool.{and_parts, cond_both}
use Rattle.std.proofs.lemmas.List.Elements.{All-head, All-map, All-nil, All-tail, All-weaker}
use Rattle.fabric_lemmas.specs.Maps.{at}
use Rattle.fabric_terms.specs.declared.record.Record.{Record}
use Rattle.fabric_terms.specs.declared.record.Record.TheVariants.{Boot, PromisedAt, Wrote, Incoming, AdoptedAt}
use Rattle.fabric_terms.specs.Fields.{is_epoch, is_last, is_payload, is_short, is_unit, is_word}
use Rattle.frames_fit.proofs.Each.{Each, at_each, put_each}
use Rattle.ring_points.specs.declared.unit.Epoch.{Epoch}
use Rattle.replica_core.specs.declared.entry.Entry.{Entry}
use Rattle.replica_core.specs.declared.refusal.Done.{Done}
use Rattle.replica_core.specs.Calls.{Outcome, adopt_call, adopt_collected_call, adopt_own_call, append_call, promise_call}
use Rattle.replica_core.specs.Replicas.{Replica, first_replica, uncollected}
use Rattle.unit_rules.specs.ReplicaStates.{first_state, replica_put}
use Rattle.unit_rules.specs.Starts.{Replicas, adopt_kept, called, past_all, replica_of, replicas_after, replicas_after_all, states_begun, without_collected}
use Rattle.fabric_fit.specs.Records.{KeptRecord}
use Rattle.fabric_fit.specs.ReplicaStates.{ReplicaInRange, ReplicaStateInRange, ReplicaStatesInRange}
use Rattle.fabric_fit.proofs.Calls.{OutcomeInRange, adopt_collected_in_range, adopt_in_range, adopt_own_in_range, append_in_range, empty_log, promise_in_range, uncollected_in_range}

-- A first replica, and its first state.

pub first_in_range : (partition : ℕ) → IsTrue (is_short partition) → ReplicaInRange (first_replica partition)
first_in_range partition h = record { partition = h; promised = refl; at = refl; log = empty_log; collected = empty_log }

pub first_state_in_range : (partition : ℕ) → IsTrue (is_short partition) → ReplicaStateInRange (first_state partition)
first_state_in_range partition h = record { replica = first_in_range partition h; catch_up = tt; progress = tt }

-- Replicas after a record.

abbrev ReplicasInRange : Replicas → Type 0
ReplicasInRange rs = Each ReplicaInRange rs

replica_in_range : (partition : ℕ) (rs : Replicas) → IsTrue (is_short partition) → ReplicasInRange rs → ReplicaInRange (replica_of partition rs)
replica_in_range partition rs h k = found (at partition rs) refl
  where
    found : (o : Option Replica) → at partition rs ≡ o → ReplicaInRange (unwrap_or o (first_replica partition))
    found None e = first_in_range partition h
    found (Some r) e = at_each ReplicaInRange partition rs r k e

called_in_range : (partition : ℕ) (call : Replica → Outcome Done) (rs : Replicas) → IsTrue (is_short partition) → ReplicasInRange rs
    → ((r : Replica) → ReplicaInRange r → OutcomeInRange (call r)) → ReplicasInRange (called partition call rs)
called_in_range partition call rs h k each =
    put_each ReplicaInRange partition (call (replica_of partition rs)).1 rs (each (replica_of partition rs) (replica_in_range partition rs h k)).replica k

without_in_range : (rs : Replicas) → ReplicasInRange rs → ReplicasInRange (without_collected rs)
without_in_range rs h =
    All-map (λ e. ReplicaInRange e.1) (λ e. (e.0, uncollected e.1)) rs
    (All-weaker (λ e. ReplicaInRange e.1) (λ e. ReplicaInRange (uncollected e.1)) (λ e k. uncollected_in_range e.1 k) rs h)

adopt_kept_in_range : (epoch : Epoch) (last : ℕ) (is_own : Bool) (r : Replica) → IsTrue (is_epoch epoch) → ReplicaInRange r → OutcomeInRange (adopt_kept epoch last is_own r)
adopt_kept_in_range epoch last is_own r h k =
    cond_both (is_own || last == 0) (adopt_own_call epoch last r) (adopt_collected_call epoch r) OutcomeInRange
    (λ f. adopt_own_in_range epoch r h k last) (λ f. adopt_collected_in_range epoch r h k)

after_in_range : (rs : Replicas) (r : Record) → ReplicasInRange rs → KeptRecord r → ReplicasInRange (replicas_after rs r)
after_in_range rs (Boot instance) h k = without_in_range rs h
after_in_range rs (PromisedAt partition epoch) h k =
    let unit = and_parts (is_short partition) (is_epoch epoch) k in
    called_in_range partition (promise_call epoch) rs unit.0 h (λ r f. promise_in_range epoch r unit.1 f)
after_in_range rs (Wrote partition epoch lsn text) h k =
    let parts = and_parts (is_unit partition epoch && is_last lsn) (is_payload text) k in
    let unit = and_parts (is_short partition) (is_epoch epoch) (and_parts (is_unit partition epoch) (is_last lsn) parts.0).0 in
    called_in_range partition (append_call epoch lsn text) rs unit.0 h (λ r f. append_in_range epoch r unit.1 f lsn text parts.1)
after_in_range rs (Incoming partition epoch lsn entry_epoch text) h k =
    let parts = and_parts ((is_unit partition epoch && is_last lsn) && is_epoch entry_epoch) (is_payload text) k in
    let more = and_parts (is_unit partition epoch && is_last lsn) (is_epoch entry_epoch) parts.0 in
    let two = and_parts (is_unit partition epoch) (is_last lsn) more.0 in
    let unit = and_parts (is_short partition) (is_epoch epoch) two.0 in
    let entry : Entry = record { epoch = entry_epoch; lsn = lsn; bytes = text } in
    called_in_range partition (adopt_call epoch entry past_all) rs unit.0 h
    (λ r f. adopt_in_range epoch r unit.1 f entry (record { epoch = more.1; lsn = two.1; bytes = parts.1 }) past_all)
after_in_range rs (AdoptedAt partition epoch last is_own) h k =
    let unit = and_parts (is_short partition) (is_epoch epoch) (and_parts (is_unit partition epoch) (is_word last) k).0 in
    called_in_range partition (adopt_kept epoch last is_own) rs unit.0 h (λ r f. adopt_kept_in_range epoch last is_own r unit.1 f)
after_in_range rs r h k = h

after_all_in_range : (rs : Replicas) (records : List Record) → ReplicasInRange rs → All KeptRecord records → ReplicasInRange (replicas_after_all rs records)
after_all_in_range rs [] h k = h
after_all_in_range rs (r ∷ more) h k =
    after_all_in_range (replicas_after rs r) more (after_in_range rs r h (All-head KeptRecord r more k)) (All-tail KeptRecord r more k)

-- The replica states.

pub states_begun_in_range : (records : List Record) → All KeptRecord records → ReplicaStatesInRange (states_begun records)
states_begun_in_range records k =
    let rs : Replicas = without_collected (replicas_after_all [] records) in
    All-map (λ e. ReplicaStateInRange e.1) (λ e. (e.0, replica_put (first_state e.0) e.1)) rs
    (All-weaker (λ e. ReplicaInRange e.1) (λ e. ReplicaStateInRange (replica_put (first_state e.0) e.1)) (λ e f. record { replica = f; catch_up = tt; progress = tt }) rs
    (without_in_range (replicas_after_all [] records) (after_all_in_range [] records (All-nil (λ e. ReplicaInRange e.1)) k)))
