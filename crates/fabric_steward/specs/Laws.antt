-- What the policy never does, whatever it is told.
use Rattle.std.specs.Prelude.{◌≡◌, ℕ, ◌≤◌, ◌==◌, min, max, Bool, true, false, ◌||◌, ◌&&◌, List, map, Option, Some, None, IfSome, IsTrue}
use Rattle.std.specs.List.{list_any}
use Rattle.ring_points.specs.declared.unit.Config.{Config}
use Rattle.fabric_terms.specs.declared.command.Command.{Command}
use Rattle.fabric_terms.specs.declared.command.Command.TheVariants.{Join, Find, Link, Create, Heal, Swap, GiveAll, Part}
use Rattle.fabric_terms.specs.declared.config.FabricConfig.{FabricConfig}
use Rattle.fabric_terms.specs.declared.report.Report.{Report}
use Rattle.fabric_terms.specs.Ranges.{FitsCommand}
use Rattle.fabric_terms.specs.Sound.{IsSound}
use Rattle.ring_rules.specs.declared.input.Input.{Input}
use Rattle.service_file.specs.declared.settings.Declared.{Declared}
use Rattle.service_file.specs.declared.settings.ServiceSettings.{ServiceSettings}
use Rattle.service_file.specs.Sound.{IsSoundService}
use Rattle.fabric_steward.specs.declared.leaving.Parting.{Parting}
use Rattle.fabric_steward.specs.declared.leaving.Parting.TheVariants.{Say, Wait, Gone}
use Rattle.fabric_steward.specs.declared.unit_watch.UnitWatch.{UnitWatch}
use Rattle.fabric_steward.specs.Afterwards.{advised, command_given}
use Rattle.fabric_steward.specs.Calls.{ArePaused, Call, commands_for, policy_after}
use Rattle.fabric_steward.specs.Departures.{Plan, parting}
use Rattle.fabric_steward.specs.Domains.{domains_up}
use Rattle.fabric_steward.specs.Facts.{Facts}
use Rattle.fabric_steward.specs.Links.{Links}
use Rattle.fabric_steward.specs.Noted.{noted}
use Rattle.fabric_steward.specs.Policies.{Policy, fresh_policy}
use Rattle.fabric_steward.specs.Times.{first_pause}

-- what a policy may name: nodes to join, nodes to greet, points to find, partitions with their replicas
pub record Names : Type 0 where
  pub joins : List ℕ
  pub nodes : List ℕ
  pub points : List ℕ
  pub units : List Declared

abbrev pub declared_of : UnitWatch → Declared
declared_of w = record { partition = w.partition; replicas = w.replicas }

abbrev pub names_of : Policy → Names
names_of s = record {
  joins = s.joins;
  nodes = map (λ n. n.node) s.nodes;
  points = map (λ n. n.point.0) s.nodes;
  units = map declared_of s.units;
}

-- so many replicas are wanted of this partition, where a node is up in so many domains
abbrev pub is_wanted : (domains partition count : ℕ) → Declared → Bool
is_wanted domains partition count d = d.partition == partition && count == max 1 (min d.replicas domains)

-- the policy may give this command
abbrev pub may_give : (domains : ℕ) → Names → Command → Bool
may_give domains names (Join node) = list_any (λ n. n == node) names.joins
may_give domains names (Find point) = point.0 == 0 || list_any (λ p. p == point.0) names.points
may_give domains names (Link node) = list_any (λ n. n == node) names.nodes
may_give domains names (Create partition count) = list_any (is_wanted domains partition count) names.units
may_give domains names (Heal partition count) = list_any (is_wanted domains partition count) names.units
may_give domains names _ = false

-- It gives joins, finds, links, creates and heals alone: of nodes to join, of point 0 and points of nodes, of configured
-- nodes, of its partitions.
abbrev pub GivesItsNames : Type 0
GivesItsNames = (f : Facts) (now : ℕ) (s : Policy) →
    IfSome (command_given f now s) (λ command. IsTrue (may_give (domains_up f now s.nodes) (names_of s) command))

-- What it may name stays as it was configured.
pub record KeepsItsNames : Type 0 where
  pub advised : (f : Facts) (now : ℕ) (s : Policy) → names_of (advised f now s) ≡ names_of s
  pub noted : (input : Input) (told : List Report) (s : Policy) → names_of (noted input told s) ≡ names_of s

-- Two commands for one partition are at least a pause apart, whatever the calls are.
abbrev pub PausesBetween : Type 0
PausesBetween = (c : FabricConfig) (settings : ServiceSettings) (me : ℕ) (calls : List Call) (partition : ℕ) → 1 ≤ c.lease →
    ArePaused (first_pause c.lease) (commands_for partition (fresh_policy c settings me) calls)

-- Each command that it gives is in the grammar of commands, whatever the calls were.
abbrev pub GivesWhatFits : Type 0
GivesWhatFits = (c : FabricConfig) (settings : ServiceSettings) (me : ℕ) (calls : List Call) (f : Facts) (now : ℕ) → IsSound c →
    IsSoundService c settings → IfSome (command_given f now (policy_after (fresh_policy c settings me) calls)) FitsCommand

abbrev pub is_member : ℕ → Option Config → Bool
is_member node None = false
is_member node (Some c) = list_any (λ m. m == node) c.members

-- A node that leaves may give this command: a heal of a declared partition with its replicas, a swap of one to a member of
-- its known configuration, and what gives points to a configured node or parts the link with one.
abbrev pub may_leave_by : Facts → (domains : ℕ) → Plan → Command → Bool
may_leave_by f domains s (Heal partition count) = list_any (is_wanted domains partition count) (map declared_of s.units)
may_leave_by f domains s (Swap partition node) =
    list_any (λ w. w.partition == partition) s.units && is_member node (f.config_of partition)
may_leave_by f domains s (GiveAll node) = list_any (λ n. n.node == node) s.nodes
may_leave_by f domains s (Part node) = list_any (λ n. n.node == node) s.nodes
may_leave_by f domains s _ = false

abbrev pub may_part : Facts → (domains : ℕ) → Plan → Parting → Bool
may_part f domains s (Say command) = may_leave_by f domains s command
may_part f domains s (Wait reading) = true
may_part f domains s Gone = true

-- It commands nothing else.
abbrev pub LeavesByItsWords : Type 0
LeavesByItsWords = (f : Facts) (l : Links) (now : ℕ) (s : Plan) →
    IsTrue (may_part f (domains_up f now s.nodes) s (parting f l now s))
