-- The actors of a running program, and their starts and steps by the rules of the world.
use Rattle.std.specs.Prelude.{ℕ, ◌+◌, Bool, true, false, List, Option, Some, None, nat_lt, unwrap_or}
use Rattle.arbiter_tables.specs.Registers.{registered}
use Rattle.arbiter_tables.specs.Tables.{entries_of}
use Rattle.unit_rules.specs.Fabric.{fabric}
use Rattle.world_rules.specs.Starts.{node_begun_in}
use Rattle.fabric_terms.specs.declared.config.FabricConfig.{FabricConfig}
use Rattle.fabric_terms.specs.declared.message.Body.{Body}
use Rattle.fabric_terms.specs.declared.record.Record.{Record}
use Rattle.fabric_terms.specs.declared.report.Report.{Report}
use Rattle.fabric_terms.specs.declared.report.Why.{Why}
use Rattle.join_phases.specs.declared.phases.Phase.{Phase}
use Rattle.join_phases.specs.declared.phases.Phase.TheVariants as phase
use Rattle.ring_points.specs.declared.who.Who.{Who}
use Rattle.ring_rules.specs.declared.input.Input.{Input}
use Rattle.ring_rules.specs.declared.input.Input.TheVariants as input
use Rattle.world_rules.specs.Arbiters.{ArbiterState, arbiter_begun, arbiter_step}
use Rattle.world_rules.specs.Events.{arbiter_number, is_arbiter_actor}
use Rattle.world_rules.specs.Nodes.{NodeState, node_step}
use Rattle.world_rules.specs.Uppers.{Did, idle}
use Rattle.world_rules.specs.Worlds.{arbiter_who}

-- an actor that runs
pub data Member : Type 0 where
  Node : (node : NodeState fabric) → Member
  Arbiter : (number : ℕ) (arbiter : ArbiterState fabric) → Member

-- What an actor did in one step: in which turn, who it is and with which reading, and what it recorded, sent and told. A
-- start is in turn 0, and an arbitrator has no reading.
pub record Step : Type 0 where
  pub turn : ℕ
  pub who : Who
  pub reading : Option ℕ
  pub records : List Record
  pub sent : List (Who × Body)
  pub told : List Report

-- an actor after its start or a step, and the step
pub record Stepped : Type 0 where
  pub member : Member
  pub step : Step

abbrev pub node_stepped : ℕ → ℕ → Did (NodeState fabric) → Stepped
node_stepped turn reading d = record {
  member = Node d.state;
  step = record { turn = turn; who = d.state.ring.me; reading = Some reading; records = d.records; sent = d.sent; told = d.told };
}

abbrev pub arbiter_stepped : ℕ → ℕ → Did (ArbiterState fabric) → Stepped
arbiter_stepped turn number d = record {
  member = Arbiter number d.state;
  step = record { turn = turn; who = arbiter_who number; reading = None; records = d.records; sent = d.sent; told = d.told };
}

-- the reading of a turn is the clock's last one
abbrev pub present : Option ℕ → ℕ
present last = unwrap_or last 0

abbrev pub begun_as : FabricConfig → (whole : Who) → ℕ → Option ℕ → ℕ → List Record → Bool → Stepped
begun_as c whole turn last actor records true = arbiter_stepped turn (arbiter_number actor) (idle (arbiter_begun fabric c (arbiter_number actor) records))
begun_as c whole turn last actor records false = node_stepped turn (present last) (node_begun_in fabric whole c actor records)

-- the start of an actor from its records, at this last reading of the clock, where this instance begins with the whole ring
unfoldable pub begun : FabricConfig → (whole : Who) → ℕ → Option ℕ → ℕ → List Record → Stepped
begun c whole turn last actor records = begun_as c whole turn last actor records (is_arbiter_actor actor)

-- its step, at this last reading of the clock; an arbitrator hears frames alone
unfoldable pub stepped : FabricConfig → ℕ → Option ℕ → Input → Member → Stepped
stepped c turn last i (Node s) = node_stepped turn (present last) (node_step fabric c (present last) i s)
stepped c turn last (input.Frame m) (Arbiter number s) = arbiter_stepped turn number (arbiter_step fabric c number m s)
stepped c turn last i (Arbiter number s) = arbiter_stepped turn number (idle s)

-- the step of an actor that does nothing, at this last reading of the clock
abbrev pub rested : ℕ → Option ℕ → Member → Step
rested turn last (Node s) = (node_stepped turn (present last) (idle s)).step
rested turn last (Arbiter number s) = (arbiter_stepped turn number (idle s)).step

-- an arbitrator has no more entries than this
abbrev pub most_entries : ℕ
most_entries = 1000000

-- it has more entries than an arbitrator can keep
unfoldable pub exceeds : Member → Bool
exceeds (Node s) = false
exceeds (Arbiter number s) = nat_lt most_entries (entries_of s.table + registered s.beside)

abbrev pub why_left : Phase → Option Why
why_left (phase.Left p) = Some p.why
why_left _ = None

-- why it has left the ring, if it has
abbrev pub left_of : Member → Option Why
left_of (Node s) = why_left s.ring.phase
left_of (Arbiter number s) = None
