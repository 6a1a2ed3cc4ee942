-- Calls on a replica, one after another.
use Rattle.std.specs.Prelude.{ℕ, List, [], ◌∷◌, Option, Some, None, Result, Ok, Err}
use Rattle.ring_points.specs.declared.unit.Config.{Config}
use Rattle.ring_points.specs.declared.unit.Epoch.{Epoch}
use Rattle.replica_core.specs.declared.entry.Entry.{Entry}
use Rattle.replica_core.specs.declared.refusal.ReplicaRefusal.{ReplicaRefusal}
use Rattle.replica_core.specs.Replicas.{Replica, uncollected, begun_again}
use Rattle.replica_core.specs.Calls.{Outcome, promise_call, append_call, adopt_own_call, adopt_call, adopt_collected_call, idle_call, activate_call}

pub data Call : Type 0 where
  Promise : (e : Epoch) → Call
  Append : (e : Epoch) → (lsn : ℕ) → (bytes : List ℕ) → Call
  AdoptOwn : (e : Epoch) → (last : ℕ) → Call
  Adopt : (e : Epoch) → (entry : Entry) → (last : ℕ) → Call
  AdoptCollected : (e : Epoch) → Call
  DropCollected : Call
  Idle : (e : Epoch) → Call
  Activate : (me : ℕ) → (config : Config) → Call
  BeginAgain : Call

-- the epoch of a call, if it was taken
abbrev pub taken_epoch : {A : Type 0} → Epoch → Result A ReplicaRefusal → Option Epoch
taken_epoch e (Ok x) = Some e
taken_epoch e (Err refusal) = None

abbrev pub of_epoch : {A : Type 0} → Epoch → Outcome A → Option Epoch × Replica
of_epoch e outcome = (taken_epoch e outcome.0, outcome.1)

-- the epoch of the call, if it has one and was taken, and the replica after it
abbrev pub made : Call → Replica → Option Epoch × Replica
made (Promise e) s = of_epoch e (promise_call e s)
made (Append e lsn bytes) s = of_epoch e (append_call e lsn bytes s)
made (AdoptOwn e last) s = of_epoch e (adopt_own_call e last s)
made (Adopt e entry last) s = of_epoch e (adopt_call e entry last s)
made (AdoptCollected e) s = of_epoch e (adopt_collected_call e s)
made DropCollected s = (None, uncollected s)
made (Idle e) s = of_epoch e (idle_call e s)
made (Activate me config) s = of_epoch config.epoch (activate_call me config s)
made BeginAgain s = (None, begun_again s)

abbrev pub after : Call → Replica → Replica
after call s = (made call s).1

-- after these calls, in their order
abbrev pub after_all : List Call → Replica → Replica
after_all [] s = s
after_all (call ∷ calls) s = after_all calls (after call s)
