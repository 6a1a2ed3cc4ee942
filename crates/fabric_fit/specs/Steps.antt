-- One step of a node and of an arbitrator of units, in range: whatever came before, in whatever order, no schedule is asked for.
use Rattle.std.specs.Prelude.{◌≡◌, ℕ, true, false, List, All, IsTrue}
use Rattle.world_rules.specs.Starts.{node_begun_in}
use Rattle.fabric_terms.specs.declared.config.FabricConfig.{FabricConfig}
use Rattle.fabric_terms.specs.declared.message.Message.{Message}
use Rattle.fabric_terms.specs.declared.record.Record.{Record}
use Rattle.fabric_terms.specs.Messages.{is_sound}
use Rattle.fabric_terms.specs.Ranges.{IsNumber}
use Rattle.fabric_terms.specs.Sent.{from_all}
use Rattle.fabric_terms.specs.Sound.{IsSound}
use Rattle.frames_fit.specs.Formats.{InputInFormat, ReportInRange}
use Rattle.frames_fit.specs.InRange.{IsInRange}
use Rattle.frames_fit.specs.Tables.{TableInRange}
use Rattle.join_phases.specs.Phases.{is_left}
use Rattle.ring_points.specs.declared.who.Who.{Who}
use Rattle.ring_rules.specs.declared.input.Input.{Input}
use Rattle.unit_rules.specs.Units.{units}
use Rattle.world_rules.specs.Arbiters.{ArbiterState, arbiter_begun, arbiter_step}
use Rattle.world_rules.specs.Nodes.{NodeState, node_step}
use Rattle.world_rules.specs.Schedules.{is_configured_node}
use Rattle.world_rules.specs.Uppers.{Did}
use Rattle.world_rules.specs.Worlds.{arbiter_who}
use Rattle.fabric_fit.specs.Failovers.{FailoverInRange}
use Rattle.fabric_fit.specs.Records.{KeptRecord}
use Rattle.fabric_fit.specs.Registers.{RegistersInRange}

-- a step leaves a state that is in range, records and tells what is, and each message that it sends is a frame
pub record StepInFormat {S : Type 0} (InRange : S → Type 0) (who : Who) (d : Did S) : Type 0 where
  pub state : InRange d.state
  pub records : All KeptRecord d.records
  pub frames : All (λ m. IsTrue (is_sound m)) (from_all who d.sent)
  pub reports : All ReportInRange d.told

-- A node.

pub record NodeInRange (c : FabricConfig) (s : NodeState units) : Type 0 where
  pub ring : IsInRange c s.ring
  pub above : FailoverInRange s.above

-- a node that has left does nothing any more, and nothing is asked of it
abbrev pub LiveInRange : FabricConfig → NodeState units → Type 0
LiveInRange c s = is_left s.ring.phase ≡ false → NodeInRange c s

abbrev pub NodeDoes : FabricConfig → Did (NodeState units) → Type 0
NodeDoes c d = StepInFormat (LiveInRange c) d.state.ring.me d

-- from records that are in range, whoever begins with the whole ring
abbrev pub NodesBeginInFormat : Type 0
NodesBeginInFormat =
    (whole : Who) (c : FabricConfig) (node : ℕ) (records : List Record) → IsSound c → is_configured_node c node ≡ true → All KeptRecord records →
    NodeDoes c (node_begun_in units whole c node records)

-- by any frame, a forged one too, and by any command that fits
abbrev pub NodesStayInFormat : Type 0
NodesStayInFormat =
    (c : FabricConfig) (now : ℕ) (i : Input) (s : NodeState units) → IsSound c → IsNumber now → InputInFormat i → LiveInRange c s →
    NodeDoes c (node_step units c now i s)

-- An arbitrator.

pub record ArbiterInRange (s : ArbiterState units) : Type 0 where
  pub table : TableInRange s.table
  pub beside : RegistersInRange s.beside

abbrev pub ArbitersBeginInFormat : Type 0
ArbitersBeginInFormat =
    (c : FabricConfig) (arbiter : ℕ) (records : List Record) → IsSound c → All KeptRecord records → ArbiterInRange (arbiter_begun units c arbiter records)

abbrev pub ArbitersStayInFormat : Type 0
ArbitersStayInFormat =
    (c : FabricConfig) (arbiter : ℕ) (m : Message) (s : ArbiterState units) → IsSound c → IsTrue (is_sound m) → ArbiterInRange s →
    StepInFormat ArbiterInRange (arbiter_who arbiter) (arbiter_step units c arbiter m s)
