-- Taking a role keeps a replica in range.
use Rattle.std.proofs.Common.{ℕ, [], ◌∷◌, None, IsTrue}
use Rattle.std.specs.Prelude.{Ok, Err}
use Rattle.std.proofs.lemmas.Bool.{cond_both}
use Rattle.fabric_terms.specs.declared.message.Body.TheVariants as body
use Rattle.fabric_terms.specs.declared.report.Report.TheVariants as report
use Rattle.fabric_terms.specs.Fields.{is_addressee, is_config, is_unit}
use Rattle.ring_points.specs.declared.unit.Config.{Config}
use Rattle.ring_points.specs.declared.who.Who.{Who}
use Rattle.replica_core.specs.declared.role.Role.{Role}
use Rattle.replica_core.specs.declared.role.Role.TheVariants.{Primary}
use Rattle.replica_core.specs.Calls.{Outcome, activate_call}
use Rattle.replica_core.specs.Replicas.{Replica}
use Rattle.unit_rules.specs.Activations.{activate_answered, activate_received, role_begun, same_role, say_activated}
use Rattle.unit_rules.specs.Deeds.{Tell, acted}
use Rattle.unit_rules.specs.ReplicaStates.{ReplicaState, last_of}
use Rattle.fabric_fit.specs.Deeds.{ActedInRange, DeedInRange}
use Rattle.fabric_fit.specs.ReplicaStates.{ReplicaInRange, ReplicaStateInRange}
use Rattle.fabric_fit.proofs.Calls.{OutcomeInRange, activate_in_range}
use Rattle.fabric_fit.proofs.Deeds.{deeds_from, does_one, one_deed, sends}
use Rattle.fabric_fit.proofs.Leads.{first_progress_in_range}
use Rattle.fabric_fit.proofs.Members.{config_parts}
use Rattle.fabric_fit.proofs.Promises.{last_fits, older_in_range}
use Rattle.fabric_fit.proofs.Telling.{unit_told}

module _ (me : ℕ) (asker : Who) (addressed : IsTrue (is_addressee asker)) (config : Config) (sound : IsTrue (is_config config)) (s : ReplicaState)
    (fine : ReplicaStateInRange s) where
  unit : IsTrue (is_unit config.partition config.epoch)
  unit = (config_parts config sound).unit

  said : DeedInRange (say_activated asker config)
  said = sends asker (body.Activated config.partition config.epoch) addressed unit

  role_in_range : (r : Replica) → ReplicaInRange r → (role : Role) → ActedInRange ReplicaStateInRange (role_begun me asker config s r role)
  role_in_range r h Primary = record {
    state = record { replica = h; catch_up = fine.catch_up; progress = first_progress_in_range me config (last_of r) sound (last_fits r h) };
    deeds =
        deeds_from (Tell (report.IsPrimary config.partition config.epoch)) (say_activated asker config ∷ []) (unit_told config.partition config.epoch unit)
        (one_deed (say_activated asker config) said);
  }
  role_in_range r h role =
      does_one ReplicaStateInRange (record s { replica = r; progress = None }) (say_activated asker config) (record { replica = h; catch_up = fine.catch_up; progress = tt }) said

  answered_in_range : (o : Outcome Role) → OutcomeInRange o → ActedInRange ReplicaStateInRange (activate_answered me asker config s o)
  answered_in_range (Err refusal, r) h =
      record { state = fine; deeds = older_in_range asker addressed config.partition config.epoch unit refusal h.answer }
  answered_in_range (Ok role, r) h =
      cond_both (same_role s.replica.role role) (acted s (say_activated asker config ∷ [])) (role_begun me asker config s r role) (ActedInRange ReplicaStateInRange)
      (λ f. does_one ReplicaStateInRange s (say_activated asker config) fine said)
      (λ f. role_in_range r h.replica role)

  pub activate_received_in_range : ActedInRange ReplicaStateInRange (activate_received me asker config s)
  unfolding activate_received
  activate_received_in_range =
      answered_in_range (activate_call me config s.replica) (activate_in_range me config s.replica (config_parts config sound).epoch fine.replica)
