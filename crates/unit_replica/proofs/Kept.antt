-- The replicas to which records amount stand each at its own partition.
use Rattle.std.proofs.Common.{◌≡◌, ◌==◌, ℕ, Bool, true, false, cond, List, [], ◌∷◌, Some, Ok, refl, ap, ◌∙◌}
use Rattle.std.proofs.lemmas.Bool.{eqb-true}
use Rattle.std.specs.Prelude.{◌+◌, ◌||◌, length, map, nat_le, nat_lt, unwrap_or, ◌&&◌}
use Rattle.std.specs.Map.{values_of}
use Rattle.ring_points.specs.Limits.{most_log_entries}
use Rattle.ring_points.specs.declared.unit.Epoch.{Epoch}
use Rattle.ring_points.specs.Epochs.{is_older, same_epoch}
use Rattle.fabric_lemmas.specs.Maps.{at, put, put_here, rises, rises_from}
use Rattle.fabric_lemmas.proofs.Maps.{rises-put}
use Rattle.fabric_terms.specs.declared.record.Record.{Record}
use Rattle.fabric_terms.specs.declared.record.Record.TheVariants.{Boot, PromisedAt, Wrote, Incoming, AdoptedAt}
use Rattle.keep_log.proofs.MapEntries.{rises-mapped}
use Rattle.replica_core.specs.declared.entry.Entry.{Entry}
use Rattle.replica_core.specs.declared.refusal.Done.{Done}
use Rattle.replica_core.specs.declared.refusal.Done.TheVariants.{New}
use Rattle.replica_core.specs.declared.refusal.ReplicaRefusal.{ReplicaRefusal}
use Rattle.replica_core.specs.declared.refusal.ReplicaRefusal.TheVariants.{Older, Gap, LogFull}
use Rattle.replica_core.specs.Replicas.{Replica, collected_in, collecting, first_replica, raised, settled, uncollected, written}
use Rattle.replica_core.specs.Calls.{Outcome, adopt_call, adopt_collected_call, adopt_own_call, append_call, collected_call, held_if, is_ahead, is_collected, is_empty, is_gap, own_adopted, promise_call, unless}
use Rattle.unit_rules.specs.ReplicaStates.{first_state, replica_put}
use Rattle.unit_rules.specs.Starts.{Replicas, adopt_kept, called, past_all, replica_of, replicas_after, replicas_after_all, without_collected}
use Rattle.unit_replica.specs.Laws.{StartsAreOfRecords, StopsAreTaken}
use Rattle.unit_replica.specs.Starts.{replicas_in, bare_state, states_from, states_of}
use Rattle.unit_replica.specs.Tables.{ReplicaStates}

-- no call changes the partition

unless_same : (b : Bool) (why : ReplicaRefusal) (r : Replica) (next : Outcome Done) → next.1.partition ≡ r.partition → (unless b why r next).1.partition ≡ r.partition
unless_same true why r next h = refl
unless_same false why r next h = h

held_same : (b : Bool) (r : Replica) (next : Outcome Done) → next.1.partition ≡ r.partition → (held_if b r next).1.partition ≡ r.partition
held_same true r next h = refl
held_same false r next h = h

promise_same : (e : Epoch) (r : Replica) → (promise_call e r).1.partition ≡ r.partition
promise_same e r = unless_same (is_older e r.promised) (Older r.promised) r _ (held_same (same_epoch r.promised e) r (Ok New, raised e r) refl)

append_same : (e : Epoch) (lsn : ℕ) (text : List ℕ) (r : Replica) → (append_call e lsn text r).1.partition ≡ r.partition
append_same e lsn text r =
    unless_same (is_older e r.promised) (Older r.promised) r _
    (unless_same (is_ahead e lsn r) (Gap (length r.log)) r _
    (held_same (nat_lt lsn (length r.log + 1)) r _
    (unless_same (length r.log == most_log_entries) LogFull r (Ok New, written (record { epoch = e; lsn = lsn; bytes = text }) r) refl)))

own_same : (e : Epoch) (last : ℕ) (r : Replica) → (adopt_own_call e last r).1.partition ≡ r.partition
own_same e last r =
    unless_same (is_older e r.promised) (Older r.promised) r _
    (held_same (same_epoch r.at e) r (own_adopted (last == 0) (last == length r.log) e r) (by (last == 0) (last == length r.log)))
  where
    by : (none whole : Bool) → (own_adopted none whole e r).1.partition ≡ r.partition
    by true whole = refl
    by false true = refl
    by false false = refl

adopt_same : (e : Epoch) (x : Entry) (last : ℕ) (r : Replica) → (adopt_call e x last r).1.partition ≡ r.partition
adopt_same e x last r =
    unless_same (is_older e r.promised) (Older r.promised) r _
    (held_same (same_epoch r.at e) r _
    (unless_same (is_gap e x.lsn r) (Gap (length (collected_in e r))) r (collected_call (x.lsn == last) e x r) (by (x.lsn == last))))
  where
    by : (b : Bool) → (collected_call b e x r).1.partition ≡ r.partition
    by true = refl
    by false = held_same (is_collected e x r) r (Ok New, collecting e x r) refl

collected_same : (e : Epoch) (r : Replica) → (adopt_collected_call e r).1.partition ≡ r.partition
collected_same e r =
    unless_same (is_older e r.promised) (Older r.promised) r _
    (held_same (same_epoch r.at e) r _
    (unless_same (is_empty (collected_in e r)) (Gap 0) r (Ok New, settled e (raised e r)) refl))

kept_same : (e : Epoch) (last : ℕ) (is_own : Bool) (r : Replica) → (adopt_kept e last is_own r).1.partition ≡ r.partition
kept_same e last is_own r = by (is_own || last == 0)
  where
    by : (b : Bool) → (cond b (adopt_own_call e last r) (adopt_collected_call e r)).1.partition ≡ r.partition
    by true = own_same e last r
    by false = collected_same e r

-- each replica stands at its partition

abbrev AreOwn : Replicas → Type 0
AreOwn [] = Unit {0}
AreOwn (e ∷ rs) = (e.1.partition ≡ e.0) × AreOwn rs

own-put : (k : ℕ) (r : Replica) (rs : Replicas) → r.partition ≡ k → AreOwn rs → AreOwn (put k r rs)
own-put k r [] is own = (is, tt)
own-put k r (e ∷ rs) is own = by (nat_lt k e.0) (k == e.0) (own-put k r rs is own.1)
  where
    by : (lt same : Bool) → AreOwn (put k r rs) → AreOwn (put_here k r e rs (put k r rs) lt same)
    by true same behind = (is, own)
    by false true behind = (is, own.1)
    by false false behind = (own.0, behind)

own-at : (k : ℕ) (rs : Replicas) → AreOwn rs → (replica_of k rs).partition ≡ k
own-at k [] own = refl
own-at k (e ∷ rs) own = by (e.0 == k) refl (own-at k rs own.1)
  where
    by : (b : Bool) → (e.0 == k) ≡ b → (replica_of k rs).partition ≡ k → (unwrap_or (cond b (Some e.1) (at k rs)) (first_replica k)).partition ≡ k
    by true f rest = own.0 ∙ eqb-true e.0 k f
    by false f rest = rest

own-called : (k : ℕ) (call : Replica → Outcome Done) (rs : Replicas) → ((r : Replica) → (call r).1.partition ≡ r.partition) → AreOwn rs → AreOwn (called k call rs)
own-called k call rs same own = own-put k (call (replica_of k rs)).1 rs (same (replica_of k rs) ∙ own-at k rs own) own

own-uncollected : (rs : Replicas) → AreOwn rs → AreOwn (without_collected rs)
own-uncollected [] own = tt
own-uncollected (e ∷ rs) own = (own.0, own-uncollected rs own.1)

own-after : (rs : Replicas) (r : Record) → AreOwn rs → AreOwn (replicas_after rs r)
own-after rs (Boot instance) own = own-uncollected rs own
own-after rs (PromisedAt k e) own = own-called k (promise_call e) rs (promise_same e) own
own-after rs (Wrote k e lsn text) own = own-called k (append_call e lsn text) rs (append_same e lsn text) own
own-after rs (Incoming k e lsn entry_epoch text) own =
    let x : Entry = record { epoch = entry_epoch; lsn = lsn; bytes = text } in
    own-called k (adopt_call e x past_all) rs (adopt_same e x past_all) own
own-after rs (AdoptedAt k e last is_own) own = own-called k (adopt_kept e last is_own) rs (kept_same e last is_own) own
own-after rs _ own = own

own-after_all : (rs : Replicas) (records : List Record) → AreOwn rs → AreOwn (replicas_after_all rs records)
own-after_all rs [] own = own
own-after_all rs (r ∷ records) own = own-after_all (replicas_after rs r) records (own-after rs r own)

-- and they rise by partition

rises-after : (rs : Replicas) (r : Record) → rises rs ≡ true → rises (replicas_after rs r) ≡ true
rises-after rs (Boot instance) up = rises-mapped uncollected 0 rs ∙ up
rises-after rs (PromisedAt k e) up = rises-put k (promise_call e (replica_of k rs)).1 rs up
rises-after rs (Wrote k e lsn text) up = rises-put k (append_call e lsn text (replica_of k rs)).1 rs up
rises-after rs (Incoming k e lsn entry_epoch text) up =
    let x : Entry = record { epoch = entry_epoch; lsn = lsn; bytes = text } in
    rises-put k (adopt_call e x past_all (replica_of k rs)).1 rs up
rises-after rs (AdoptedAt k e last is_own) up = rises-put k (adopt_kept e last is_own (replica_of k rs)).1 rs up
rises-after rs _ up = up

rises-after_all : (rs : Replicas) (records : List Record) → rises rs ≡ true → rises (replicas_after_all rs records) ≡ true
rises-after_all rs [] up = up
rises-after_all rs (r ∷ records) up = rises-after_all (replicas_after rs r) records (rises-after rs r up)

-- so the states of the replicas are those of the rules

abbrev begun_with : Replicas → ReplicaStates
begun_with rs = map (λ e. (e.0, replica_put (first_state e.0) e.1)) (without_collected rs)

abbrev as_they_are : Replicas → ReplicaStates
as_they_are rs = map (λ e. (e.0, bare_state e.1)) rs

begins : (rs : Replicas) → AreOwn rs → states_from (values_of rs) ≡ begun_with rs
begins [] own = refl
begins (e ∷ rs) own = λ i. (own.0 i, bare_state (uncollected e.1)) ∷ begins rs own.1 i

stands : (rs : Replicas) → AreOwn rs → states_of (values_of rs) ≡ as_they_are rs
stands [] own = refl
stands (e ∷ rs) own = λ i. (own.0 i, bare_state e.1) ∷ stands rs own.1 i

begins_again : (rs : Replicas) → AreOwn rs → states_from (replicas_in (begun_with rs)) ≡ begun_with rs
begins_again [] own = refl
begins_again (e ∷ rs) own = λ i. (own.0 i, bare_state (uncollected e.1)) ∷ begins_again rs own.1 i

stands_again : (rs : Replicas) → AreOwn rs → states_of (replicas_in (begun_with rs)) ≡ begun_with rs
stands_again [] own = refl
stands_again (e ∷ rs) own = λ i. (own.0 i, bare_state (uncollected e.1)) ∷ stands_again rs own.1 i

rises-as : (low : ℕ) (rs : Replicas) → rises_from low (as_they_are rs) ≡ rises_from low rs
rises-as low [] = refl
rises-as low (e ∷ rs) = ap (λ (b : Bool). nat_le low e.0 && b) (rises-as (e.0 + 1) rs)

rises-begun : (low : ℕ) (rs : Replicas) → rises_from low (begun_with rs) ≡ rises_from low rs
rises-begun low [] = refl
rises-begun low (e ∷ rs) = ap (λ (b : Bool). nat_le low e.0 && b) (rises-begun (e.0 + 1) rs)

pub starts_lem : StartsAreOfRecords
starts_lem records =
    let rs : Replicas = replicas_after_all [] records in
    let own : AreOwn rs = own-after_all [] records tt in
    record {
      rises = ap (λ (s : ReplicaStates). rises s) (stands rs own) ∙ (rises-as 0 rs ∙ rises-after_all [] records refl);
      begun = begins rs own;
    }

pub stops_lem : StopsAreTaken
stops_lem records states same =
    let rs : Replicas = replicas_after_all [] records in
    let own : AreOwn rs = own-after_all [] records tt in
    record {
      rises = ap (λ (s : ReplicaStates). rises (states_of (replicas_in s))) same
          ∙ (ap (λ (s : ReplicaStates). rises s) (stands_again rs own) ∙ (rises-begun 0 rs ∙ rises-after_all [] records refl));
      begun = ap (λ (s : ReplicaStates). states_from (replicas_in s)) same ∙ begins_again rs own;
    }
