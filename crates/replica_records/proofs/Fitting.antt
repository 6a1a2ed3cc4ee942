-- What is recorded of a replica leaves it of its partition, and its log of no epoch above its promise.
use Rattle.std.proofs.Common.{◌≡◌, ℕ, ◌≤◌, Bool, true, false, ◌||◌, ◌==◌, List, [], ◌∷◌, Some, refl, sym, ap, ◌∙◌}
use Rattle.std.specs.Prelude.{if◌then◌else◌}
use Rattle.fabric_terms.specs.declared.record.Record.{Record}
use Rattle.fabric_terms.specs.declared.record.Record.TheVariants.{PromisedAt, Wrote, Incoming, AdoptedAt}
use Rattle.ring_points.specs.Limits.{most_log_entries}
use Rattle.ring_points.specs.declared.unit.Epoch.{Epoch}
use Rattle.ring_points.specs.Epochs.{is_older}
use Rattle.replica_core.specs.Calls.{adopt_own_call, adopt_collected_call}
use Rattle.replica_core.specs.Histories.{Promise, Append, AdoptOwn, Adopt, AdoptCollected}
use Rattle.replica_core.specs.Laws.{IsNotAhead}
use Rattle.replica_core.specs.Replicas.{Replica}
use Rattle.replica_core.proofs.Risen.{staying_behind}
use Rattle.unit_rules.specs.declared.progress.CatchUp.{CatchUp}
use Rattle.unit_rules.specs.Deeds.{Acted, records_of}
use Rattle.unit_rules.specs.ReplicaStates.{ReplicaState}
use Rattle.unit_rules.specs.Starts.{past_all}
use Rattle.replica_records.specs.Kept.{without_role, IsFit}
use Rattle.replica_records.proofs.Blind.{promise_blind, append_blind, adopt_blind}
use Rattle.replica_records.proofs.Folding.{replica_after, replica_after_all}
use Rattle.replica_records.proofs.Recorded.{Recorded, left}
use Rattle.replica_records.proofs.Roles.{kept_blind}

same_partition : (r : Replica) (x : Record) → (replica_after r x).partition ≡ r.partition
same_partition r (PromisedAt q epoch) = (promise_blind epoch r).partition
same_partition r (Wrote q epoch lsn text) = (append_blind epoch lsn text r).partition
same_partition r (Incoming q epoch lsn entry_epoch text) = (adopt_blind epoch (record { epoch = entry_epoch; lsn = lsn; bytes = text }) past_all r).partition
same_partition r (AdoptedAt q epoch last is_own) = (kept_blind epoch last is_own r).partition
same_partition r x = refl

kept_behind : (e : Epoch) (last : ℕ) (is_own : Bool) (r : Replica) → IsNotAhead r →
    IsNotAhead (left (if is_own || last == 0 then adopt_own_call e last r else adopt_collected_call e r))
kept_behind e last is_own r h = go (is_own || last == 0)
  where
    go : (b : Bool) → IsNotAhead (left (if b then adopt_own_call e last r else adopt_collected_call e r))
    go true = staying_behind (AdoptOwn e last ∷ []) r h
    go false = staying_behind (AdoptCollected e ∷ []) r h

stays_behind : (r : Replica) (x : Record) → IsNotAhead r → IsNotAhead (replica_after r x)
stays_behind r (PromisedAt q epoch) h = staying_behind (Promise epoch ∷ []) r h
stays_behind r (Wrote q epoch lsn text) h = staying_behind (Append epoch lsn text ∷ []) r h
stays_behind r (Incoming q epoch lsn entry_epoch text) h =
    staying_behind (Adopt epoch (record { epoch = entry_epoch; lsn = lsn; bytes = text }) past_all ∷ []) r h
stays_behind r (AdoptedAt q epoch last is_own) h = kept_behind epoch last is_own r h
stays_behind r x h = h

all_partition : (r : Replica) (xs : List Record) → (replica_after_all r xs).partition ≡ r.partition
all_partition r [] = refl
all_partition r (x ∷ xs) = all_partition (replica_after r x) xs ∙ same_partition r x

all_behind : (r : Replica) (xs : List Record) → IsNotAhead r → IsNotAhead (replica_after_all r xs)
all_behind r [] h = h
all_behind r (x ∷ xs) h = all_behind (replica_after r x) xs (stays_behind r x h)

-- a replica that differs in its role alone is as fit, if it takes no log that has no room
pub same_fit : (p : ℕ) (s u : ReplicaState) → IsFit p s → without_role s.replica ≡ without_role u.replica →
    ((t : CatchUp) → u.catch_up ≡ Some t → t.last ≤ most_log_entries) → IsFit p u
same_fit p s u fit same room = record {
  partition = sym (ap (λ (r : Replica). r.partition) same) ∙ fit.partition;
  at_promised = sym (ap (λ (r : Replica). is_older r.promised r.at) same) ∙ fit.at_promised;
  room = room;
}

-- what is recorded is fit
pub recorded_fit : (p : ℕ) (s : ReplicaState) (a : Acted ReplicaState) → Recorded p s a → IsFit p s → ((t : CatchUp) → a.state.catch_up ≡ Some t → t.last ≤ most_log_entries) →
    IsFit p a.state
recorded_fit p s a r fit room = record {
  partition =
      sym (ap (λ (z : Replica). z.partition) r.folds) ∙ (all_partition (without_role s.replica) (records_of a.deeds) ∙ fit.partition);
  at_promised =
      sym (ap (λ (z : Replica). is_older z.promised z.at) r.folds) ∙ all_behind (without_role s.replica) (records_of a.deeds) fit.at_promised;
  room = room;
}
