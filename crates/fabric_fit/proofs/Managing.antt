-- A command and an answer keep the manager in range.
use Rattle.std.proofs.Common.{◌≡◌, ℕ, ◌≤◌, Bool, false, cond, List, [], ◌∷◌, Option, Some, None, IsTrue, refl}
use Rattle.std.specs.Prelude.{All, Err, Ok, Result, is_some, nat_lt, not}
use Rattle.std.proofs.lemmas.Bool.{and_from, and_parts, cond_both, ltb-false, or_parts}
use Rattle.fabric_lemmas.specs.Maps.{at}
use Rattle.failover_units.specs.declared.refusal.UnitRefusal.{UnitRefusal}
use Rattle.failover_units.specs.Units.{Table, changed, noted, seen_at}
use Rattle.fabric_terms.specs.declared.message.Body.{Body}
use Rattle.fabric_terms.specs.declared.report.Report.{Report}
use Rattle.fabric_terms.specs.declared.report.Report.TheVariants as report
use Rattle.fabric_terms.specs.declared.report.Reason.{Reason}
use Rattle.fabric_terms.specs.declared.report.Reason.TheVariants as reason
use Rattle.fabric_terms.specs.declared.report.Verb.{Verb}
use Rattle.fabric_terms.specs.Fields.{is_config, is_epoch, is_short, is_word}
use Rattle.fabric_terms.specs.Messages.{is_sound_body}
use Rattle.fabric_terms.specs.Ranges.{FitsReason}
use Rattle.frames_fit.specs.Formats.{ReportInRange}
use Rattle.frames_fit.proofs.Each.{at_each, put_each, without_each}
use Rattle.frames_fit.proofs.Facts.{word_from}
use Rattle.replica_place.specs.declared.load.NodeLoad.{NodeLoad}
use Rattle.ring_points.specs.declared.unit.Config.{Config}
use Rattle.ring_points.specs.declared.unit.Epoch.{Epoch}
use Rattle.token_core.specs.Tokens.{last_number}
use Rattle.unit_rules.specs.declared.reconfig.Kind.{Kind}
use Rattle.unit_rules.specs.declared.reconfig.Task.{Task}
use Rattle.unit_rules.specs.Deeds.{Acted, Deed, Tell, refuse}
use Rattle.unit_rules.specs.Epochs.{is_past_end}
use Rattle.unit_rules.specs.Manager.{Managed, answer_for, begins, begins_in, entered, manager_answered, over, reason_of, reconfig_commanded, stands, table_or, task_begun, task_commanded, verb_of}
use Rattle.unit_rules.specs.Polls.{arbiters_to}
use Rattle.unit_rules.specs.Reconfigs.{Decide, Finished, Phase0, Phase1, Phase2, Phase3, Phase4, Prepare, Reconfig, Refused, Stay, Step, Superseded, task_of}
use Rattle.unit_rules.specs.Transitions.{answer_received, begun}
use Rattle.fabric_fit.specs.Deeds.{ActedInRange, DeedInRange}
use Rattle.fabric_fit.specs.Managers.{ManagedInRange, ReconfigInRange, TaskInRange, UnitsInRange, is_kind}
use Rattle.fabric_fit.proofs.Asking.{first_asked, asks_in_range}
use Rattle.fabric_fit.proofs.Deeds.{does_one, one_deed, stays_in_range}
use Rattle.fabric_fit.proofs.Knowing.{TableInRange, entered_in_range, table_noted, table_seen}
use Rattle.fabric_fit.proofs.Members.{config_parts}
use Rattle.fabric_fit.proofs.Placing.{NodesInRange}
use Rattle.fabric_fit.proofs.Telling.{epoch_told, partition_told}
use Rattle.fabric_fit.proofs.Transitions.{StepInRange, answer_received_in_range, begun_in_range}

abbrev pub ManagedActs : Acted Managed → Type 0
ManagedActs a = ActedInRange ManagedInRange a

-- no number of such an epoch is past the last one
epoch_fits : (e : Epoch) → is_past_end e ≡ false → IsTrue (is_epoch e)
epoch_fits e h =
    let parts = or_parts (nat_lt last_number e.data_loss) (nat_lt last_number e.configuration) h in
    and_from (is_word e.data_loss) (is_word e.configuration) (word_from e.data_loss (ltb-false last_number e.data_loss parts.0))
    (word_from e.configuration (ltb-false last_number e.configuration parts.1))

-- the task of a reconfiguration
task_in_range : (r : Reconfig) → ReconfigInRange r → TaskInRange (task_of r)
task_in_range (Prepare p) h = h.task
task_in_range (Phase0 p) h = h.task
task_in_range (Phase1 p) h = h.task
task_in_range (Decide p) h = h.task
task_in_range (Phase2 p) h = h.task
task_in_range (Phase3 p) h = h.task
task_in_range (Phase4 p) h = h.task

short : (t : Task) → TaskInRange t → IsTrue (is_short t.partition)
short t h = (and_parts (is_short t.partition) (is_epoch t.epoch) h.unit).0

config_epoch : (config : Config) → IsTrue (is_config config) → IsTrue (is_epoch config.epoch)
config_epoch config h = (config_parts config h).epoch

module _ (s : Managed) (fine : ManagedInRange s) where
  -- A command.

  refused : (verb : Verb) (why : Reason) → FitsReason why → ManagedActs (refuse verb why s)
  refused verb why h = does_one ManagedInRange s (Tell (report.Refused verb why)) fine h

  begins_in_range : (t : Task) → TaskInRange t → (units : Table) → UnitsInRange units → ManagedActs (begins t units s)
  begins_in_range t h units k =
      let first = begun_in_range t h in
      record {
        state = record { units = k; reconfigs = put_each ReconfigInRange t.partition (begun t) s.reconfigs first fine.reconfigs };
        deeds = asks_in_range (begun t) first (arbiters_to t.arbitrators) (first_asked t.arbitrators h.arbitrators);
      }

  module _ (t : Task) (partition : IsTrue (is_short t.partition)) (kind : IsTrue (is_kind t.kind)) (few : t.arbitrators ≤ 9) where
    begins_in_in_range : (o : Result Table UnitRefusal) → TableInRange o → ManagedActs (begins_in t s o)
    begins_in_in_range (Err u) h = refused (verb_of t.kind) (reason_of u) h
    begins_in_in_range (Ok units) h =
        cond_both (is_past_end t.epoch) (refuse (verb_of t.kind) reason.Counters s) (begins t units s) ManagedActs
        (λ f. refused (verb_of t.kind) reason.Counters tt)
        (λ f. begins_in_range t
        (record { unit = and_from (is_short t.partition) (is_epoch t.epoch) partition (epoch_fits t.epoch f); kind = kind; arbitrators = few }) units h)

    begun_in : (is_manager : Bool) → ManagedActs (task_begun is_manager t s)
    begun_in is_manager =
        let go : Acted Managed = begins_in t s (entered t.kind t.partition s.units) in
        let busy : Acted Managed = refuse (verb_of t.kind) reason.Busy s in
        cond_both (not is_manager) (refuse (verb_of t.kind) reason.NotManager s) (cond (is_some (at t.partition s.reconfigs)) busy go) ManagedActs
        (λ f. refused (verb_of t.kind) reason.NotManager tt)
        (λ f. cond_both (is_some (at t.partition s.reconfigs)) busy go ManagedActs (λ g. refused (verb_of t.kind) reason.Busy tt)
        (λ g. begins_in_in_range (entered t.kind t.partition s.units) (entered_in_range t.kind t.partition s.units partition fine.units)))

  pub reconfig_commanded_in_range : (is_manager : Bool) (arbitrators partition : ℕ) (kind : Kind) → arbitrators ≤ 9 → IsTrue (is_short partition)
      → IsTrue (is_kind kind) → ManagedActs (reconfig_commanded is_manager arbitrators partition kind s)
  unfolding reconfig_commanded
  reconfig_commanded_in_range is_manager arbitrators partition kind few h k = begun_in (task_commanded arbitrators partition kind s.units) h k few is_manager

  -- An answer.

  over_in_range : (t : Task) (units : Table) → UnitsInRange units → (r : Report) → ReportInRange r → ManagedActs (over t units s (Tell r ∷ []))
  over_in_range t units h r k =
      record { state = record { units = h; reconfigs = without_each ReconfigInRange t.partition s.reconfigs fine.reconfigs }; deeds = one_deed (Tell r) k }

  stands_in_range : (t : Task) → TaskInRange t → (step : Step) → StepInRange step → (ds : List Deed) → All DeedInRange ds → ManagedActs (stands t s step ds)
  stands_in_range t named (Stay r) h ds k =
      record { state = record { units = fine.units; reconfigs = put_each ReconfigInRange t.partition r s.reconfigs h fine.reconfigs }; deeds = k }
  stands_in_range t named (Finished config) h ds k =
      over_in_range t (table_or s.units (changed config.partition (noted config) s.units)) (table_noted config s.units h fine.units)
      (report.Configured t.partition config.epoch) (partition_told t.partition (short t named), epoch_told config.epoch (config_epoch config h))
  stands_in_range t named (Superseded epoch) h ds k =
      over_in_range t (table_or s.units (changed t.partition (seen_at epoch) s.units)) (table_seen t.partition epoch s.units (short t named) h fine.units)
      (report.Superseded t.partition epoch) (partition_told t.partition (short t named), epoch_told epoch h)
  stands_in_range t named (Refused u) h ds k = over_in_range t s.units fine.units (report.Refused (verb_of t.kind) (reason_of u)) h

  module _ (nodes : List NodeLoad) (see : NodesInRange nodes) (actor : ℕ) (epoch : Epoch) (b : Body) (sound : IsTrue (is_sound_body b)) where
    answer_in_range : (o : Option Reconfig) → ((r : Reconfig) → o ≡ Some r → ReconfigInRange r) → ManagedActs (answer_for nodes actor epoch b s o)
    answer_in_range None h = stays_in_range ManagedInRange s fine
    answer_in_range (Some r) h =
        let step : Acted Step = answer_received nodes actor epoch b r in
        let did = answer_received_in_range nodes see actor b sound r (h r refl) epoch in
        stands_in_range (task_of r) (task_in_range r (h r refl)) step.state did.state step.deeds did.deeds

    pub manager_answered_in_range : (partition : ℕ) → ManagedActs (manager_answered nodes actor partition epoch b s)
    unfolding manager_answered
    manager_answered_in_range partition = answer_in_range (at partition s.reconfigs) (λ r e. at_each ReconfigInRange partition s.reconfigs r fine.reconfigs e)
