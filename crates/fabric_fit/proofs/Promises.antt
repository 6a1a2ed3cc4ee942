-- Promises keep a replica in range, and what is said of them a frame can carry.
use Rattle.std.proofs.Common.{ℕ, ◌&&◌, [], ◌∷◌, length, IsTrue}
use Rattle.std.specs.Prelude.{All, Ok, Err}
use Rattle.std.proofs.lemmas.Bool.{and_from, le-leb}
use Rattle.std.proofs.lemmas.List.Elements.{All-append}
use Rattle.fabric_terms.specs.declared.message.Body.TheVariants as body
use Rattle.fabric_terms.specs.declared.record.Record.TheVariants as kept
use Rattle.fabric_terms.specs.declared.report.Report.TheVariants as report
use Rattle.fabric_terms.specs.Fields.{is_addressee, is_epoch, is_last, is_short, is_unit}
use Rattle.ring_points.specs.declared.unit.Epoch.{Epoch}
use Rattle.ring_points.specs.declared.who.Who.{Who}
use Rattle.replica_core.specs.declared.refusal.Done.{Done}
use Rattle.replica_core.specs.declared.refusal.Done.TheVariants.{New, Held}
use Rattle.replica_core.specs.declared.refusal.ReplicaRefusal.{ReplicaRefusal}
use Rattle.replica_core.specs.declared.refusal.ReplicaRefusal.TheVariants.{Older}
use Rattle.replica_core.specs.Calls.{Outcome, promise_call}
use Rattle.replica_core.specs.Replicas.{Replica}
use Rattle.unit_rules.specs.Deeds.{Keep, Send, Tell}
use Rattle.unit_rules.specs.Promises.{promise_answered, promise_received, raise_told, say_older}
use Rattle.unit_rules.specs.ReplicaStates.{ReplicaState, last_of, replica_put}
use Rattle.fabric_fit.specs.Deeds.{ActedInRange, DeedInRange}
use Rattle.fabric_fit.specs.ReplicaStates.{ReplicaInRange, ReplicaStateInRange}
use Rattle.fabric_fit.proofs.Calls.{OutcomeInRange, RefusalInRange, promise_in_range}
use Rattle.fabric_fit.proofs.Deeds.{deeds_from, no_deeds, one_deed, sends}
use Rattle.fabric_fit.proofs.Telling.{unit_told}

pub unit_from : (partition : ℕ) (epoch : Epoch) → IsTrue (is_short partition) → IsTrue (is_epoch epoch) → IsTrue (is_unit partition epoch)
unit_from partition epoch h k = and_from (is_short partition) (is_epoch epoch) h k

-- the number of a log's last entry
pub last_fits : (r : Replica) → ReplicaInRange r → IsTrue (is_last (last_of r))
last_fits r h = le-leb (length r.log) 100000 h.log.room

-- with a replica that is in range
pub replica_put_in_range : (s : ReplicaState) (r : Replica) → ReplicaStateInRange s → ReplicaInRange r → ReplicaStateInRange (replica_put s r)
replica_put_in_range s r h k = record { replica = k; catch_up = h.catch_up; progress = h.progress }

module _ (asker : Who) (addressed : IsTrue (is_addressee asker)) (partition : ℕ) (epoch : Epoch) (unit : IsTrue (is_unit partition epoch)) where
  pub older_in_range : (refusal : ReplicaRefusal) → RefusalInRange refusal → All DeedInRange (say_older asker partition epoch refusal)
  older_in_range (Older promised) h =
      one_deed (Send asker (body.Older partition epoch promised))
      (sends asker (body.Older partition epoch promised) addressed (and_from (is_unit partition epoch) (is_epoch promised) unit h))
  older_in_range refusal h = no_deeds

  pub raise_in_range : (done : Done) → All DeedInRange (raise_told partition epoch done)
  raise_in_range New =
      deeds_from (Keep (kept.PromisedAt partition epoch)) (Tell (report.Promised partition epoch) ∷ []) unit
      (one_deed (Tell (report.Promised partition epoch)) (unit_told partition epoch unit))
  raise_in_range Held = no_deeds

module _ (asker : Who) (addressed : IsTrue (is_addressee asker)) (epoch : Epoch) (fits : IsTrue (is_epoch epoch)) (s : ReplicaState) (fine : ReplicaStateInRange s) where
  answered_in_range : (o : Outcome Done) → OutcomeInRange o → ActedInRange ReplicaStateInRange (promise_answered asker epoch s o)
  answered_in_range (Err refusal, r) h =
      record { state = fine; deeds = older_in_range asker addressed r.partition epoch (unit_from r.partition epoch h.replica.partition fits) refusal h.answer }
  answered_in_range (Ok done, r) h =
      let unit = unit_from r.partition epoch h.replica.partition fits in
      record {
        state = replica_put_in_range s r fine h.replica;
        deeds =
            All-append DeedInRange (raise_told r.partition epoch done) (Send asker (body.Promised r.partition epoch r.at (last_of r)) ∷ [])
            (raise_in_range asker addressed r.partition epoch unit done)
            (one_deed (Send asker (body.Promised r.partition epoch r.at (last_of r)))
            (sends asker (body.Promised r.partition epoch r.at (last_of r)) addressed
            (and_from (is_unit r.partition epoch && is_epoch r.at) (is_last (last_of r))
            (and_from (is_unit r.partition epoch) (is_epoch r.at) unit h.replica.at) (last_fits r h.replica))));
      }

  pub promise_received_in_range : ActedInRange ReplicaStateInRange (promise_received asker epoch s)
  unfolding promise_received
  promise_received_in_range = answered_in_range (promise_call epoch s.replica) (promise_in_range epoch s.replica fits fine.replica)
