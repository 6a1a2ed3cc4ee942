-- The manager at a node: create, swap, heal, lose, what becomes of their reconfigurations, and the units that it knows.
use Rattle.std.specs.Prelude.{ℕ, Bool, not, List, [], ◌∷◌, Option, Some, None, Result, Ok, Err, is_some, if◌then◌else◌}
use Rattle.ring_points.specs.declared.unit.Epoch.{Epoch}
use Rattle.fabric_lemmas.specs.Maps.{at, put, without}
use Rattle.fabric_terms.specs.declared.message.Body.{Body}
use Rattle.fabric_terms.specs.declared.report.Report.TheVariants as report
use Rattle.fabric_terms.specs.declared.report.Reason.{Reason}
use Rattle.fabric_terms.specs.declared.report.Reason.TheVariants as reason
use Rattle.fabric_terms.specs.declared.report.Verb.{Verb}
use Rattle.fabric_terms.specs.declared.report.Verb.TheVariants as verb
use Rattle.failover_units.specs.declared.refusal.UnitRefusal.{UnitRefusal}
use Rattle.failover_units.specs.declared.refusal.UnitRefusal.TheVariants as refusal
use Rattle.failover_units.specs.Units.{Table, unit_of, changed, created, noted, seen_at}
use Rattle.replica_core.specs.Replicas.{first_epoch}
use Rattle.replica_place.specs.declared.load.NodeLoad.{NodeLoad}
use Rattle.unit_rules.specs.Deeds.{Deed, Tell, Acted, acted, still, refuse}
use Rattle.unit_rules.specs.Epochs.{next_epoch, epoch_after_loss, is_past_end}
use Rattle.unit_rules.specs.declared.reconfig.Kind.{Kind}
use Rattle.unit_rules.specs.declared.reconfig.Kind.TheVariants.{Create, Swap, Heal, Lose}
use Rattle.unit_rules.specs.declared.reconfig.Task.{Task}
use Rattle.unit_rules.specs.Reconfigs.{Reconfig, Step, Stay, Finished, Superseded, Refused, task_of}
use Rattle.unit_rules.specs.Polls.{arbiters_to}
use Rattle.unit_rules.specs.Questions.{asks}
use Rattle.unit_rules.specs.Transitions.{begun, answer_received}

-- the units that are known, and the reconfigurations that stand, by partition
pub record Managed : Type 0 where
  pub units : Table
  pub reconfigs : List (ℕ × Reconfig)

abbrev pub verb_of : Kind → Verb
verb_of (Create count) = verb.Create
verb_of (Swap node) = verb.Swap
verb_of (Heal count) = verb.Heal
verb_of (Lose node) = verb.Lose

abbrev pub reason_of : UnitRefusal → Reason
reason_of refusal.Exists = reason.Exists
reason_of refusal.NoUnit = reason.NoUnit
reason_of refusal.Full = reason.Full
reason_of refusal.NotMember = reason.NotMember
reason_of (refusal.TooFewDomains domains) = reason.TooFew domains
reason_of refusal.OutOfMemory = reason.Full

-- A command.

-- its epoch, after the highest one that is known
abbrev pub epoch_of : Kind → Epoch → Epoch
epoch_of (Lose node) highest = epoch_after_loss highest
epoch_of _ highest = next_epoch highest

-- its partition enters the units; a create finds no known configuration there
abbrev pub entered : Kind → ℕ → Table → Result Table UnitRefusal
entered (Create count) partition units = created partition units
entered _ partition units = changed partition (seen_at first_epoch) units

abbrev pub task : ℕ → ℕ → Epoch → Kind → Task
task arbitrators partition epoch kind = record { partition = partition; epoch = epoch; kind = kind; arbitrators = arbitrators }

abbrev pub task_commanded : ℕ → ℕ → Kind → Table → Task
task_commanded arbitrators partition kind units = task arbitrators partition (epoch_of kind (unit_of partition units).highest) kind

-- all arbitrators are asked to prepare the epoch
abbrev pub begins : Task → Table → Managed → Acted Managed
begins t units s = acted (record { units = units; reconfigs = put t.partition (begun t) s.reconfigs }) (asks (begun t) (arbiters_to t.arbitrators))

abbrev pub begins_in : Task → Managed → Result Table UnitRefusal → Acted Managed
begins_in t s (Err refusal) = refuse (verb_of t.kind) (reason_of refusal) s
begins_in t s (Ok units) = if is_past_end t.epoch then refuse (verb_of t.kind) reason.Counters s else begins t units s

-- It is refused in this order: the node is not the manager, a reconfiguration of the partition stands, the partition exists
-- or finds no place, a number of the epoch would be past its end.
abbrev pub task_begun : Bool → Task → Managed → Acted Managed
task_begun is_manager t s =
    if not is_manager then refuse (verb_of t.kind) reason.NotManager s
    else if is_some (at t.partition s.reconfigs) then refuse (verb_of t.kind) reason.Busy s
    else begins_in t s (entered t.kind t.partition s.units)

unfoldable pub reconfig_commanded : Bool → ℕ → ℕ → Kind → Managed → Acted Managed
reconfig_commanded is_manager arbitrators partition kind s = task_begun is_manager (task_commanded arbitrators partition kind s.units) s

-- An answer.

-- what is known changes, where the partition stands or finds a place
abbrev pub table_or : Table → Result Table UnitRefusal → Table
table_or old (Ok new) = new
table_or old (Err refusal) = old

-- the reconfiguration is over, and this is known now
abbrev pub over : Task → Table → Managed → List Deed → Acted Managed
over t units s deeds = acted (record { units = units; reconfigs = without t.partition s.reconfigs }) deeds

-- a configuration that is active is noted, a higher epoch is seen, and a refusal uses up no epoch
abbrev pub stands : Task → Managed → Step → List Deed → Acted Managed
stands t s (Stay r) deeds = acted (record s { reconfigs = put t.partition r s.reconfigs }) deeds
stands t s (Finished config) deeds =
    over t (table_or s.units (changed config.partition (noted config) s.units)) s (Tell (report.Configured t.partition config.epoch) ∷ [])
stands t s (Superseded epoch) deeds =
    over t (table_or s.units (changed t.partition (seen_at epoch) s.units)) s (Tell (report.Superseded t.partition epoch) ∷ [])
stands t s (Refused refusal) deeds = over t s.units s (Tell (report.Refused (verb_of t.kind) (reason_of refusal)) ∷ [])

abbrev pub stands_after : Task → Managed → Acted Step → Acted Managed
stands_after t s step = stands t s step.state step.deeds

abbrev pub answer_for : List NodeLoad → ℕ → Epoch → Body → Managed → Option Reconfig → Acted Managed
answer_for nodes actor epoch b s None = still s
answer_for nodes actor epoch b s (Some r) = stands_after (task_of r) s (answer_received nodes actor epoch b r)

-- an answer for the partition and the epoch
unfoldable pub manager_answered : List NodeLoad → ℕ → ℕ → Epoch → Body → Managed → Acted Managed
manager_answered nodes actor partition epoch b s = answer_for nodes actor epoch b s (at partition s.reconfigs)
