-- A reconfiguration on its way: its phases, each with what was answered so far.
use Rattle.std.specs.Prelude.{ℕ, List, Option}
use Rattle.ring_points.specs.declared.unit.Config.{Config}
use Rattle.ring_points.specs.declared.unit.Epoch.{Epoch}
use Rattle.arbiter_quorum.specs.Votes.{VoteTally}
use Rattle.failover_units.specs.declared.refusal.UnitRefusal.{UnitRefusal}
use Rattle.unit_rules.specs.Polls.{Poll}
use Rattle.unit_rules.specs.declared.reconfig.Standing.{Standing}
use Rattle.unit_rules.specs.declared.reconfig.Task.{Task}

-- the log that the members are to have: that of the origin, up to its last entry
pub record OriginLog : Type 0 where
  pub origin : ℕ
  pub last : ℕ

-- Prepare: the arbitrators prepare the epoch, and say what was done last
pub record PreparePhase : Type 0 where
  pub task : Task
  pub poll : Poll (Option Config)

-- phase 0, of a swap: the primary of the old configuration promises, so that it takes no writes any more; `primary` is to
-- follow it
pub record SwapPhase : Type 0 where
  pub task : Task
  pub old : Config
  pub primary : ℕ

-- phase 1: a majority of the asked promises. Then these members are proposed; `first` is the first of them as they were
-- placed, or the node that was named
pub record PromisePhase : Type 0 where
  pub task : Task
  pub members : List ℕ
  pub first : ℕ
  pub poll : Poll Standing

-- Decide: the arbitrators vote for the proposed configuration
pub record VotePhase : Type 0 where
  pub task : Task
  pub config : Config
  pub source : OriginLog
  pub votes : VoteTally

-- phase 2: the members take the log
pub record CopyPhase : Type 0 where
  pub task : Task
  pub config : Config
  pub source : OriginLog
  pub poll : Poll (Unit {0})

-- phase 3: the arbitrators keep the configuration as done
pub record DonePhase : Type 0 where
  pub task : Task
  pub config : Config
  pub poll : Poll (Unit {0})

-- phase 4: the members take their roles
pub record ActivatePhase : Type 0 where
  pub task : Task
  pub config : Config
  pub poll : Poll (Unit {0})

-- the phases, in their order
pub data Reconfig : Type 0 where
  Prepare : (p : PreparePhase) → Reconfig
  Phase0 : (p : SwapPhase) → Reconfig
  Phase1 : (p : PromisePhase) → Reconfig
  Decide : (p : VotePhase) → Reconfig
  Phase2 : (p : CopyPhase) → Reconfig
  Phase3 : (p : DonePhase) → Reconfig
  Phase4 : (p : ActivatePhase) → Reconfig

-- how it is with a reconfiguration after an answer: it goes on, its configuration is active, a higher epoch ends it, or
-- what was done before forbids it
pub data Step : Type 0 where
  Stay : (r : Reconfig) → Step
  Finished : (config : Config) → Step
  Superseded : (epoch : Epoch) → Step
  Refused : (refusal : UnitRefusal) → Step

abbrev pub task_of : Reconfig → Task
task_of (Prepare p) = p.task
task_of (Phase0 p) = p.task
task_of (Phase1 p) = p.task
task_of (Decide p) = p.task
task_of (Phase2 p) = p.task
task_of (Phase3 p) = p.task
task_of (Phase4 p) = p.task
