-- What a call that was made leaves of a replica.
use Rattle.std.proofs.Common.{◌≡◌, ◌≢◌, Bool, true, Ok, Err, Result, sym, ap, ◌∙◌}
use Rattle.replica_core.specs.declared.refusal.Done.{Done}
use Rattle.replica_core.specs.declared.refusal.ReplicaRefusal.{ReplicaRefusal}
use Rattle.replica_core.specs.declared.refusal.ReplicaRefusal.TheVariants.{OutOfMemory}
use Rattle.replica_core.specs.Replicas.{Replica}
use Rattle.replica_core.specs.Calls.{Answers, Outcome}
use Rattle.keep_log.specs.declared.not_taken.NotTaken.{NotTaken}
use Rattle.keep_log.specs.declared.not_taken.NotTaken.TheVariants as kept
use Rattle.keep_log.specs.Taking.{Settles, Takes}

left_by : (defined : Outcome Done) (old new : Replica) (answer : Result Done ReplicaRefusal) → Answers defined old new answer
    → answer ≢ Err OutOfMemory → new ≡ defined.1
left_by defined old new (Ok done) is short = sym (ap (λ (o : Outcome Done). o.1) is)
left_by defined old new (Err e) is short = is.0 ∙ sym (ap (λ (o : Outcome Done). o.1) (is.1 (λ same. short (ap Err same))))

-- a call with its answer as defined but for want of memory
pub takes_answered : (test : Bool) (defined : Outcome Done) (old new : Replica) (answer : Result Done ReplicaRefusal) (result : Result (Unit {0}) NotTaken)
    → test ≡ true → Answers defined old new answer → Settles answer result → Takes test defined.1 new result
takes_answered test defined old new answer (Ok done) h is settles = (h, left_by defined old new answer is settles)
takes_answered test defined old new answer (Err kept.OutOfPlace) h is settles = absurd settles
takes_answered test defined old new answer (Err kept.OutOfMemory) h is settles = h

-- a call that takes no memory
pub takes_defined : (test : Bool) (defined : Outcome Done) (new : Replica) (answer : Result Done ReplicaRefusal) (result : Result (Unit {0}) NotTaken)
    → test ≡ true → (answer, new) ≡ defined → Settles answer result → Takes test defined.1 new result
takes_defined test defined new answer (Ok done) h is settles = (h, ap (λ (o : Outcome Done). o.1) is)
takes_defined test defined new answer (Err kept.OutOfPlace) h is settles = absurd settles
takes_defined test defined new answer (Err kept.OutOfMemory) h is settles = h
