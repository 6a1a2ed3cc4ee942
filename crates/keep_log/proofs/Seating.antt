-- A partition's replica in the map: where it stands, and where it is the first one.
use Rattle.std.proofs.Common.{◌≡◌, ℕ, true, false, Option, Some, None, Ok, Err, Result, refl, sym, ap, ◌∙◌}
use Rattle.std.specs.Prelude.{is_some, unwrap_or}
use Rattle.std.specs.BTreeMap.{is_at}
use Rattle.std.specs.Map.{set_value}
use Rattle.std.specs.Ordering.{nat_cmp}
use Rattle.fabric_lemmas.specs.Maps.{at, put, rises}
use Rattle.replica_core.specs.Replicas.{Replica, first_replica}
use Rattle.unit_rules.specs.Starts.{Replicas, called, replica_of}
use Rattle.fabric_terms.specs.declared.record.Record.{Record}
use Rattle.keep_log.specs.declared.not_taken.NotTaken.{NotTaken}
use Rattle.keep_log.specs.declared.not_taken.NotTaken.TheVariants.{OutOfPlace, OutOfMemory}
use Rattle.keep_log.specs.Places.{is_row, row_call}
use Rattle.keep_log.specs.Taking.{Takes}
use Rattle.keep_log.proofs.MapEntries.{set-is}

pub not_none : {X : Type 0} (o : Option X) → is_some o ≡ true → o ≡ None → ⊥
not_none (Some x) some none = absurd (cc)
not_none None some none = absurd (cc)

none_is : {X : Type 0} (o : Option X) (d : X) → is_some o ≡ false → unwrap_or o d ≡ d
none_is (Some x) d h = absurd (cc)
none_is None d h = refl

-- what a replica takes of a record, the partition's replica takes: this one is put there
taken_as : (partition : ℕ) (r : Record) (old new : Replicas) (x w : Replica) (result : Result (Unit {0}) NotTaken)
    → replica_of partition old ≡ x → new ≡ put partition w old → Takes (is_row r x) (row_call r x).1 w result
    → Takes (is_row r (replica_of partition old)) (called partition (row_call r) old) new result
taken_as partition r old new x w (Ok done) same is t = (
  ap (is_row r) same ∙ t.0,
  is ∙ ap (λ (s : Replica). put partition s old) (t.1 ∙ ap (λ (s : Replica). (row_call r s).1) (sym same)),
)
taken_as partition r old new x w (Err OutOfPlace) same is t = ap (is_row r) same ∙ t
taken_as partition r old new x w (Err OutOfMemory) same is t = ap (is_row r) same ∙ t

-- the one that stands there
pub takes_there : (partition : ℕ) (r : Record) (old new : Replicas) (x w : Replica) (result : Result (Unit {0}) NotTaken)
    → rises old ≡ true → at partition old ≡ Some x → new ≡ set_value (is_at (nat_cmp partition)) old w
    → Takes (is_row r x) (row_call r x).1 w result → Takes (is_row r (replica_of partition old)) (called partition (row_call r) old) new result
takes_there partition r old new x w result up found is t =
    taken_as partition r old new x w result (ap (λ (o : Option Replica). unwrap_or o (first_replica partition)) found) (is ∙ set-is partition w old x up found) t

-- a first one, which is entered once it took the record
pub takes_first : (partition : ℕ) (r : Record) (old new : Replicas) (x w : Replica) (result : Result (Unit {0}) NotTaken)
    → is_some (at partition old) ≡ false → x ≡ first_replica partition → new ≡ put partition w old
    → Takes (is_row r x) (row_call r x).1 w result → Takes (is_row r (replica_of partition old)) (called partition (row_call r) old) new result
takes_first partition r old new x w result none first is t =
    taken_as partition r old new x w result (none_is (at partition old) (first_replica partition) none ∙ sym first) is t

-- a first one that refuses the record
pub refused_first : (partition : ℕ) (r : Record) (old new : Replicas) (x w : Replica) (e : NotTaken)
    → is_some (at partition old) ≡ false → x ≡ first_replica partition → Takes (is_row r x) (row_call r x).1 w (Err e)
    → Takes (is_row r (replica_of partition old)) (called partition (row_call r) old) new (Err e)
refused_first partition r old new x w OutOfPlace none first t = ap (is_row r) (none_is (at partition old) (first_replica partition) none ∙ sym first) ∙ t
refused_first partition r old new x w OutOfMemory none first t = ap (is_row r) (none_is (at partition old) (first_replica partition) none ∙ sym first) ∙ t
