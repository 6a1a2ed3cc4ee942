-- What contracts see of a manager, and what its calls say of it.
use Rattle.std.specs.Prelude.{◌≡◌, ℕ, ◌≤◌, ◌+◌, Bool, true, ◌==◌, List, [], ◌∷◌, ◌++◌, All, length, map, flat_map, nat_lt, Option, Some, None, is_some, Result, Ok, Err, if◌then◌else◌}
use Rattle.std.specs.List.{position_or_len}
use Rattle.ring_points.specs.Limits.{most_arbiters, most_partitions}
use Rattle.ring_points.specs.declared.unit.Config.{Config}
use Rattle.ring_points.specs.declared.unit.Epoch.{Epoch}
use Rattle.ring_points.specs.declared.who.Who.{Who}
use Rattle.fabric_lemmas.specs.Maps.{at, rises}
use Rattle.fabric_terms.specs.declared.message.Body.{Body}
use Rattle.fabric_terms.specs.declared.message.Message.{Message}
use Rattle.fabric_terms.specs.declared.report.Reason.{Reason}
use Rattle.fabric_terms.specs.declared.report.Reason.TheVariants as reason
use Rattle.fabric_terms.specs.declared.report.Report.TheVariants as report
use Rattle.failover_units.specs.declared.refusal.UnitRefusal.{UnitRefusal}
use Rattle.failover_units.specs.Units.{Table, changed, is_full_for, load_of, noted, seen_at}
use Rattle.replica_place.specs.declared.load.NodeLoad.{NodeLoad}
use Rattle.unit_rules.specs.declared.reconfig.Kind.{Kind}
use Rattle.unit_rules.specs.declared.reconfig.Kind.TheVariants.{Create, Swap, Heal, Lose}
use Rattle.unit_rules.specs.declared.reconfig.Task.{Task}
use Rattle.unit_rules.specs.Deeds.{Deed, Tell, Acted, still, refuse, records_of, frames_of, reports_of}
use Rattle.unit_rules.specs.Manager.{Managed, manager_answered, over, reason_of, stands_after, table_or, verb_of}
use Rattle.unit_rules.specs.Questions.{reconfig_fired}
use Rattle.unit_rules.specs.Reconfigs as rules
use Rattle.unit_rules.specs.Reconfigs.{task_of}
use Rattle.unit_desk.specs.declared.unit_effects.UnitEffects.{UnitEffects}
use Rattle.reconfig_phases.specs.Answers.{answered_unit, received}
use Rattle.reconfig_phases.specs.Views.{reconfig_of}
use Rattle.reconfig_phases.specs.declared.reconfig.Reconfig.{Reconfig}
use Rattle.reconfig_phases.specs.declared.step.Progress.{Progress}
use Rattle.reconfig_phases.specs.declared.step.Progress.TheVariants as progress

-- the reconfigurations, by partition
abbrev pub reconfigs_of : List (ℕ × Reconfig) → List (ℕ × rules.Reconfig)
reconfigs_of es = map (λ e. (e.0, reconfig_of e.1)) es

abbrev pub managed : Table → List (ℕ × Reconfig) → Managed
managed units es = record { units = units; reconfigs = reconfigs_of es }

-- the configurations that a reconfiguration can come to are of its own partition
abbrev pub HasOwn : rules.Reconfig → Type 0
HasOwn (rules.Decide p) = All (λ v. v.1.partition ≡ p.task.partition) p.votes.answers
HasOwn (rules.Phase2 p) = p.config.partition ≡ p.task.partition
HasOwn (rules.Phase3 p) = p.config.partition ≡ p.task.partition
HasOwn (rules.Phase4 p) = p.config.partition ≡ p.task.partition
HasOwn _ = Unit {0}

-- they rise by partition, each is of the partition at which it stands, as its configurations are, and its partition
-- stands in the units
pub record IsManaged (s : Managed) : Type 0 where
  pub rise : rises s.reconfigs ≡ true
  pub own : (k : ℕ) (r : rules.Reconfig) → at k s.reconfigs ≡ Some r → (task_of r).partition ≡ k
  pub configs : (k : ℕ) (r : rules.Reconfig) → at k s.reconfigs ≡ Some r → HasOwn r
  pub known : (k : ℕ) (r : rules.Reconfig) → at k s.reconfigs ≡ Some r → is_some (at k s.units) ≡ true
  pub few : length s.reconfigs ≤ most_partitions

-- a node with its load by the known units, and all of them
abbrev pub load_node : Table → NodeLoad → NodeLoad
load_node units n = record n { load = load_of n.node units }

abbrev pub loaded : Table → List NodeLoad → List NodeLoad
loaded units nodes = map (load_node units) nodes

-- a message that is no answer changes nothing
abbrev pub manager_received_in : List NodeLoad → Message → Managed → Option (ℕ × Epoch) → Acted Managed
manager_received_in nodes m s None = still s
manager_received_in nodes m s (Some u) = manager_answered nodes m.from.actor u.0 u.1 m.body s

abbrev pub manager_received : List NodeLoad → Message → Managed → Acted Managed
manager_received nodes m s = manager_received_in nodes m s (answered_unit m.body)

-- a firing of the reconfigurations, by rising partition
abbrev pub managed_fired : List (ℕ × rules.Reconfig) → List Deed
managed_fired es = flat_map (λ e. reconfig_fired e.1) es

-- a row leaves at most one message to each arbitrator and one report behind what was there, and records nothing
pub record Few (before after : UnitEffects) : Type 0 where
  pub records : after.records ≡ before.records
  pub sent : length after.out ≤ length before.out + most_arbiters
  pub told : length after.told ≤ length before.told + 1

-- An answer, step by step.

-- the reconfiguration of the answer's partition takes it, if one stands
abbrev pub answer_taken : List NodeLoad → Message → Managed → Option rules.Reconfig → Acted Managed
answer_taken nodes m s None = still s
answer_taken nodes m s (Some r) = stands_after (task_of r) s (received nodes m r)

-- what becomes of a reconfiguration that has gone on so far, and stands so already
abbrev pub concluded : Task → Managed → Progress → Acted Managed
concluded t s progress.Stays = still s
concluded t s (progress.Finished config) =
    over t (table_or s.units (changed config.partition (noted config) s.units)) s (Tell (report.Configured t.partition config.epoch) ∷ [])
concluded t s (progress.Superseded epoch) =
    over t (table_or s.units (changed t.partition (seen_at epoch) s.units)) s (Tell (report.Superseded t.partition epoch) ∷ [])
concluded t s (progress.Refused refusal) = over t s.units s (Tell (report.Refused (verb_of t.kind) (reason_of refusal)) ∷ [])

-- a configuration that is active is of the task's partition
abbrev pub IsOwnEnd : Task → Progress → Type 0
IsOwnEnd t (progress.Finished config) = config.partition ≡ t.partition
IsOwnEnd t _ = Unit {0}

-- where a number stands among entries, their number where it does not
abbrev pub place : {X : Type 0} → ℕ → List (ℕ × X) → ℕ
place k es = position_or_len (λ e. e.0 == k) es

-- A command.

-- a new partition may find no place
abbrev pub no_place : ℕ → Table → Option Reason
no_place partition units = if is_full_for partition units then Some reason.Full else None

-- why a partition does not enter the units, if it does not
abbrev pub refusal_in : Result Table UnitRefusal → Option Reason
refusal_in (Ok units) = None
refusal_in (Err refusal) = Some (reason_of refusal)

-- a row begins a reconfiguration: only such a row needs memory
abbrev pub begins_one : Managed → Acted Managed → Bool
begins_one s a = nat_lt (length s.reconfigs) (length a.state.reconfigs)

-- why a command is refused whose epoch would be past its end, by what is known of the partition
abbrev pub reason_at_end : Kind → Option Config → Reason
reason_at_end (Create count) (Some config) = reason.Exists
reason_at_end (Create count) None = reason.Counters
reason_at_end (Swap node) known = reason.Counters
reason_at_end (Heal count) known = reason.Counters
reason_at_end (Lose node) known = reason.Counters

-- this was done, which only sends; or it is refused for a reason that is still to be told, and nothing is changed
abbrev pub Begins : Kind → Acted Managed → Managed → Managed → List (Who × Body) → List (Who × Body) → Option Reason → Type 0
Begins kind a old new before after (Some why) = (a ≡ refuse (verb_of kind) why old) × ((new ≡ old) × (after ≡ before))
Begins kind a old new before after None =
    (new ≡ a.state) × ((after ≡ before ++ frames_of a.deeds) × ((records_of a.deeds ≡ []) × (reports_of a.deeds ≡ [])))
