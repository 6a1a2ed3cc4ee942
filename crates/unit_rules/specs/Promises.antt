-- Promise: a replica promises an epoch to a manager.
use Rattle.std.specs.Prelude.{ℕ, List, [], ◌∷◌, ◌++◌, Ok, Err}
use Rattle.ring_points.specs.declared.unit.Epoch.{Epoch}
use Rattle.ring_points.specs.declared.who.Who.{Who}
use Rattle.fabric_terms.specs.declared.message.Body.TheVariants as body
use Rattle.fabric_terms.specs.declared.record.Record.TheVariants as kept
use Rattle.fabric_terms.specs.declared.report.Report.TheVariants as report
use Rattle.replica_core.specs.declared.refusal.Done.{Done}
use Rattle.replica_core.specs.declared.refusal.Done.TheVariants.{New, Held}
use Rattle.replica_core.specs.declared.refusal.ReplicaRefusal.{ReplicaRefusal}
use Rattle.replica_core.specs.declared.refusal.ReplicaRefusal.TheVariants.{Older}
use Rattle.replica_core.specs.Calls.{Outcome, promise_call}
use Rattle.unit_rules.specs.Deeds.{Deed, Keep, Send, Tell, Acted, acted}
use Rattle.unit_rules.specs.ReplicaStates.{ReplicaState, replica_put, last_of}

-- a replica that has promised a greater epoch says so; no other refusal is answered
abbrev pub say_older : Who → ℕ → Epoch → ReplicaRefusal → List Deed
say_older asker partition epoch (Older promised) = Send asker (body.Older partition epoch promised) ∷ []
say_older asker partition epoch _ = []

-- a promise that is raised is recorded and told
abbrev pub raise_told : ℕ → Epoch → Done → List Deed
raise_told partition epoch New = Keep (kept.PromisedAt partition epoch) ∷ Tell (report.Promised partition epoch) ∷ []
raise_told partition epoch Held = []

-- the promise is answered with the epoch of the log and its last entry
abbrev pub promise_answered : Who → Epoch → ReplicaState → Outcome Done → Acted ReplicaState
promise_answered asker epoch s (Err refusal, r) = acted s (say_older asker r.partition epoch refusal)
promise_answered asker epoch s (Ok done, r) =
    acted (replica_put s r) (raise_told r.partition epoch done ++ Send asker (body.Promised r.partition epoch r.at (last_of r)) ∷ [])

unfoldable pub promise_received : Who → Epoch → ReplicaState → Acted ReplicaState
promise_received asker epoch s = promise_answered asker epoch s (promise_call epoch s.replica)
