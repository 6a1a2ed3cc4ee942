-- A whole node as a value, and what its calls do.
use Rattle.std.specs.Prelude.{◌≡◌, ℕ, ◌+◌, ◌≤◌, Bool, true, false, List, [], IsTrue, length}
use Rattle.fabric_terms.specs.declared.config.FabricConfig.{FabricConfig}
use Rattle.fabric_terms.specs.declared.record.Record.{Record}
use Rattle.ring_rules.specs.declared.input.Input.{Input}
use Rattle.ring_rules.specs.declared.input.Input.TheVariants as input
use Rattle.ring_rules.specs.Rings.{Settings, settings_of}
use Rattle.ring_node.specs.Nodes.{Node}
use Rattle.fabric_terms.specs.Messages.{is_sound}
use Rattle.fabric_terms.specs.Sent.{from_all}
use Rattle.fabric_terms.specs.Ranges.{FitsCommand}
use Rattle.world_rules.specs.Nodes.{NodeState, boots_of}
use Rattle.unit_rules.specs.Fabric.{fabric}
use Rattle.world_rules.specs.Uppers.{Did}
use Rattle.unit_rules.specs.ReplicaStates.{ReplicaState}
use Rattle.unit_rules.specs.Starts.{states_begun}
use Rattle.unit_replica.specs.Starts.{states_again}
use Rattle.node_core.specs.UnitParts.{Part, domains_of, most_fired}
use Rattle.ring_points.specs.Limits.{most_arbiters, most_messages, most_step_reports}
use Rattle.unit_desk.specs.Limits.{most_row_records}
use Rattle.node_core.specs.declared.kept.NodeKept.{NodeKept}
use Rattle.node_core.specs.declared.node_parts.NodeParts.{NodeParts}
use Rattle.node_core.specs.declared.outcome.Outcome.{Outcome}

-- a whole node: what its ring goes by, the fault domains by which it places, its ring and what runs above it, and whether it
-- has room for what its next step leaves
pub record Core : Type 0 where
  pub settings : Settings
  pub domains : List (ℕ × ℕ)
  pub state : NodeState fabric
  pub has_room : Bool

-- the ring at the node
abbrev pub ring_of : Core → Node
ring_of n = record { settings = n.settings; ring = n.state.ring }

-- the node of this ring and this part above it, without room
abbrev pub core_of : Node → Part → Core
core_of n p = record { settings = n.settings; domains = p.domains; state = record { ring = n.ring; above = p.state }; has_room = false }

-- the node with these replicas
abbrev pub with_states : List (ℕ × ReplicaState) → Core → Core
with_states states n = record n { state = record n.state { above = record n.state.above { states = states } } }

-- the node goes by the configuration
pub record GoesBy (c : FabricConfig) (n : Core) : Type 0 where
  pub settings : n.settings ≡ settings_of c n.state.ring.me.actor
  pub domains : n.domains ≡ domains_of c

-- the node of these parts, without room
abbrev pub core_in : NodeParts → Core
core_in p = core_of p.ring.value p.units

-- The node is now as the rules say, and the outcome has what they record, send and tell.
pub record Does (d : Did (NodeState fabric)) (new : Core) (o : Outcome) : Type 0 where
  pub state : new.state ≡ d.state
  pub records : o.records ≡ d.records
  pub frames : o.frames ≡ from_all d.state.ring.me d.sent
  pub reports : o.reports ≡ d.told

-- what the records of a node amount to: how many instances have begun, and the replicas with which the next one begins
pub record Amounts (records : List Record) (kept : NodeKept) : Type 0 where
  pub boots : boots_of records ≡ kept.boots
  pub states : states_begun records ≡ kept.states

-- what the records of a running node amount to
abbrev pub kept_in : NodeState fabric → NodeKept
kept_in s = record { boots = s.ring.me.instance; states = states_again s.above.states }

abbrev pub nothing_kept : NodeKept
nothing_kept = record { boots = 0; states = [] }

-- the most that a step leaves

abbrev pub most_records : ℕ
most_records = most_row_records

-- by what stands at the node before the step: what the ring sends, a row above it, which asks each arbitrator once at most,
-- and a firing
unfoldable pub most_frames : NodeState fabric → ℕ
most_frames s = most_messages + most_arbiters + most_fired s.above

-- whatever stands at it
abbrev pub frames_limit : ℕ
frames_limit = 1000000

abbrev pub most_reports : ℕ
most_reports = most_step_reports

pub record IsSmall (before : NodeState fabric) (o : Outcome) : Type 0 where
  pub records : length o.records ≤ most_records
  pub frames : length o.frames ≤ most_frames before
  pub limit : length o.frames ≤ frames_limit
  pub reports : length o.reports ≤ most_reports

-- nothing is recorded, sent or told
pub record IsNothing (o : Outcome) : Type 0 where
  pub records : o.records ≡ []
  pub frames : o.frames ≡ []
  pub reports : o.reports ≡ []

-- a node with room keeps it over a step that leaves nothing, where the next step leaves no more than this one at most
abbrev pub KeepsRoom : Core → Core → Outcome → Type 0
KeepsRoom old new o = old.has_room ≡ true → IsNothing o → most_frames new.state ≤ most_frames old.state → new.has_room ≡ true

-- what comes is in its ranges
abbrev pub FitsInput : Input → Type 0
FitsInput input.Fire = Unit {0}
FitsInput (input.Frame m) = IsTrue (is_sound m)
FitsInput (input.Do d) = FitsCommand d
