-- A world of the code stands for a world of the rules.
use Rattle.std.specs.Prelude.{◌≡◌, ℕ, ◌+◌, ◌≤◌, ◌<◌, true, false, List, None, Some, length, slice_get}
use Rattle.fabric_terms.specs.declared.record.Record.{Record}
use Rattle.fabric_terms.specs.Sound.{IsSound}
use Rattle.fabric_lemmas.specs.Maps.{at, rises}
use Rattle.join_phases.specs.Phases.{is_left}
use Rattle.replica_records.specs.Named.{KeptAs}
use Rattle.node_core.specs.Nodes.{Amounts, frames_limit, kept_in}
use Rattle.node_core.specs.declared.kept.NodeKept.{NodeKept}
use Rattle.unit_rules.specs.Fabric.{fabric}
use Rattle.unit_rules.specs.Steps.{Failover}
use Rattle.world_rules.specs.Nodes.{NodeState}
use Rattle.world_rules.specs.Worlds.{World as RuledWorld, Running as RuledRunning, clocks_in, kept_of}
use Rattle.world_rules.specs.EventLimits.{most_events, most_frames, most_time}
use Rattle.ring_world.specs.Running.{AllRun, last_node}
use Rattle.ring_world.specs.ConfiguredArbiters.{IsSeat}
use Rattle.ring_world.specs.Seen.{Seen, seen_of}
use Rattle.ring_world.specs.declared.configured_arbiter.ConfiguredArbiter.{ConfiguredArbiter}
use Rattle.ring_world.specs.declared.world.World.{World}

-- what a running node recorded, and what its next start would find
pub record IsKeptAs (records : List Record) (s : NodeState fabric) : Type 0 where
  -- what ran above the ring when the node last did anything there
  pub last : Failover
  pub kept : KeptAs records last
  pub acts : is_left s.ring.phase ≡ false → last ≡ s.above
  pub amounts : Amounts records (kept_in s)

-- the same of one that does not run, of which this is kept
pub record IsKeptFor (records : List Record) (k : NodeKept) : Type 0 where
  pub last : Failover
  pub kept : KeptAs records last
  pub amounts : Amounts records k

-- what is kept of a node is what its records amount to: of one that runs the node has it, and else its place
pub record KeptStand (kept : List NodeKept) (w : RuledWorld fabric) : Type 0 where
  pub table : length kept ≡ last_node + 1
  pub running : (node : ℕ) (s : RuledRunning fabric) → node ≤ last_node → at node w.nodes ≡ Some s → IsKeptAs (kept_of w node) s.node
  pub stopped : (node : ℕ) (k : NodeKept) → at node w.nodes ≡ None → slice_get kept node ≡ Some k → IsKeptFor (kept_of w node) k

-- the running nodes rise by number, and each is known with its clock
pub record NodesStand (a : Seen) (w : RuledWorld fabric) : Type 0 where
  pub rise : rises w.nodes ≡ true
  pub running : AllRun a.config a.time a.running w.nodes
  pub clocks : a.clocks ≡ clocks_in w
  pub few : length w.nodes ≤ a.events
  pub kept : KeptStand a.kept w

-- each configured arbitrator has its seat, and no other runs
pub record ArbitersStand (a : Seen) (w : RuledWorld fabric) : Type 0 where
  pub count : length a.seats ≡ length a.config.arbiters
  pub seats : (k : ℕ) (s : ConfiguredArbiter) → slice_get a.seats k ≡ Some s → IsSeat w a.events (k + 1) s
  pub others : (arbiter : ℕ) → length a.seats < arbiter → at arbiter w.arbiters ≡ None
  pub from_one : at 0 w.arbiters ≡ None

-- every frame is in the bag, and they are few
pub record FramesStand (a : Seen) (w : RuledWorld fabric) : Type 0 where
  pub frames : a.frames ≡ w.frames
  pub counted : w.count ≡ length w.frames
  pub sent : a.sent ≡ w.count
  pub few : w.count ≤ most_frames + frames_limit

pub record SeenStands (a : Seen) (w : RuledWorld fabric) : Type 0 where
  pub sound : IsSound a.config
  pub time : a.time ≡ w.time
  pub in_time : a.time ≤ most_time
  pub few_events : a.events ≤ most_events
  pub nodes : NodesStand a w
  pub arbiters : ArbitersStand a w
  pub frames : FramesStand a w

abbrev pub Stands : World → RuledWorld fabric → Type 0
Stands a w = SeenStands (seen_of a) w
