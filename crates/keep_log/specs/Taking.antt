-- How a record is taken.
use Rattle.std.specs.Prelude.{◌≡◌, ◌≢◌, ℕ, Bool, true, false, List, [], Result, Ok, Err}
use Rattle.fabric_terms.specs.declared.record.Record.{Record}
use Rattle.ring_rules.specs.Arbiters.{no_table, table_after}
use Rattle.replica_core.specs.declared.refusal.Done.{Done}
use Rattle.replica_core.specs.declared.refusal.ReplicaRefusal.{ReplicaRefusal}
use Rattle.replica_core.specs.declared.refusal.ReplicaRefusal.TheVariants as replica
use Rattle.unit_rules.specs.Registers.{registers_after}
use Rattle.keep_log.specs.declared.not_taken.NotTaken.{NotTaken}
use Rattle.keep_log.specs.declared.not_taken.NotTaken.TheVariants.{OutOfPlace, OutOfMemory}
use Rattle.keep_log.specs.declared.reading.Reading.{Reading}
use Rattle.keep_log.specs.Amounts.{Amount, with_record}
use Rattle.keep_log.specs.Places.{Stands}

-- it is taken exactly where the test holds, and then this is made of it; memory may be short there, and nowhere else
abbrev pub Takes : {X : Type 0} → Bool → X → X → Result (Unit {0}) NotTaken → Type 0
Takes test made new (Ok done) = (test ≡ true) × (new ≡ made)
Takes test made new (Err OutOfPlace) = test ≡ false
Takes test made new (Err OutOfMemory) = test ≡ true

-- a call that was made is done with, but for want of memory
abbrev pub Settles : Result Done ReplicaRefusal → Result (Unit {0}) NotTaken → Type 0
Settles answer (Ok done) = answer ≢ Err replica.OutOfMemory
Settles answer (Err OutOfPlace) = ⊥
Settles answer (Err OutOfMemory) = answer ≡ Err replica.OutOfMemory

-- the bytes are a record that can come next, and are taken as it if there is memory for it; or they are none
abbrev pub Took : Amount → List ℕ → Amount → Result (Unit {0}) NotTaken → Type 0
Took before bytes after (Ok done) = (r : Record) × (Stands before r bytes × (after ≡ with_record before r))
Took before bytes after (Err OutOfPlace) = (r : Record) → Stands before r bytes → ⊥
Took before bytes after (Err OutOfMemory) = (r : Record) × Stands before r bytes

-- what was read so far amounts to this
abbrev pub amount_in : Reading → Amount
amount_in r = record { boots = r.boots; arbiter = r.arbiter; replicas = r.replicas }

-- the tables are those of the arbitrator's records
pub record IsTold (r : Reading) : Type 0 where
  pub table : r.table ≡ table_after no_table r.arbiter
  pub registers : r.registers ≡ registers_after [] r.arbiter
