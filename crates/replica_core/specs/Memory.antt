-- When a call on a replica may want memory.
use Rattle.std.specs.Prelude.{◌≡◌, Result, Ok, Err}
use Rattle.replica_core.specs.declared.refusal.Done.{Done}
use Rattle.replica_core.specs.declared.refusal.Done.TheVariants.{New}
use Rattle.replica_core.specs.declared.refusal.ReplicaRefusal.{ReplicaRefusal}
use Rattle.replica_core.specs.declared.refusal.ReplicaRefusal.TheVariants.{OutOfMemory}
use Rattle.replica_core.specs.Calls.{Outcome}

-- memory is wanted only where the call would store an entry
abbrev pub StoresIfShort : Outcome Done → Result Done ReplicaRefusal → Type 0
StoresIfShort defined result = result ≡ Err OutOfMemory → defined.0 ≡ Ok New
