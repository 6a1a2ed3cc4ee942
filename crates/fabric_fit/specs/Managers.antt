-- A manager whose units and reconfigurations a frame can carry.
use Rattle.std.specs.Prelude.{◌≡◌, ℕ, ◌≤◌, Bool, true, ◌&&◌, List, length, nat_le, Option, Some, None, All, IsTrue}
use Rattle.fabric_terms.specs.Fields.{is_config, is_done, is_epoch, is_last, is_node, is_short, is_unit, is_within, rises_above}
use Rattle.arbiter_quorum.specs.Votes.{VoteTally}
use Rattle.fabric_lemmas.specs.Maps.{rises}
use Rattle.failover_units.specs.declared.unit.KnownUnit.{KnownUnit}
use Rattle.failover_units.specs.Units.{Table}
use Rattle.failover_units.specs.Limits.{most_units}
use Rattle.unit_rules.specs.declared.reconfig.Kind.{Kind}
use Rattle.unit_rules.specs.declared.reconfig.Kind.TheVariants.{Create, Swap, Heal, Lose}
use Rattle.unit_rules.specs.declared.reconfig.Standing.{Standing}
use Rattle.unit_rules.specs.declared.reconfig.Task.{Task}
use Rattle.unit_rules.specs.Choices.{is_among}
use Rattle.unit_rules.specs.Manager.{Managed}
use Rattle.unit_rules.specs.Polls.{Poll}
use Rattle.unit_rules.specs.Reconfigs.{ActivatePhase, CopyPhase, Decide, DonePhase, Phase0, Phase1, Phase2, Phase3, Phase4, Prepare, PreparePhase, PromisePhase, Reconfig, OriginLog, SwapPhase, VotePhase}

-- What is known of a partition.

pub record UnitInRange (u : KnownUnit) : Type 0 where
  pub config : IsTrue (is_done u.config)
  pub highest : IsTrue (is_epoch u.highest)

-- few partitions, rising
pub record UnitsInRange (units : Table) : Type 0 where
  pub rise : rises units ≡ true
  pub few : length units ≤ most_units
  pub numbers : All (λ e. IsTrue (is_short e.0)) units
  pub each : All (λ e. UnitInRange e.1) units

-- The task.

-- how many members are placed, or which node is named
abbrev pub is_kind : Kind → Bool
is_kind (Create count) = is_within 1 7 count
is_kind (Swap node) = is_node node
is_kind (Heal count) = is_within 1 7 count
is_kind (Lose node) = is_node node

pub record TaskInRange (t : Task) : Type 0 where
  pub unit : IsTrue (is_unit t.partition t.epoch)
  pub kind : IsTrue (is_kind t.kind)
  pub arbitrators : t.arbitrators ≤ 9

-- Polls.

-- one of the first nine arbitrators
abbrev pub is_arbitrator : ℕ → Bool
is_arbitrator actor = is_within 32769 32777 actor

abbrev pub answer_fits : {A : Type 0} → (A → Bool) → Option A → Bool
answer_fits fits None = true
answer_fits fits (Some x) = fits x

-- such are asked, and what they answered is such
abbrev pub PollInRange : {A : Type 0} → (ℕ → Bool) → (A → Bool) → Poll A → Type 0
PollInRange asked fits poll = All (λ e. IsTrue (asked e.0 && answer_fits fits e.1)) poll

abbrev pub is_standing : Standing → Bool
is_standing s = is_epoch s.at && is_last s.last

-- nothing is said but that it is done
abbrev pub is_told : Unit {0} → Bool
is_told x = true

-- The phases.

-- at most 7 nodes, rising
abbrev pub are_members : List ℕ → Bool
are_members nodes = nat_le (length nodes) 7 && rises_above 0 nodes

pub record SourceInRange (s : OriginLog) : Type 0 where
  pub origin : IsTrue (is_node s.origin)
  pub last : IsTrue (is_last s.last)

pub record PrepareInRange (p : PreparePhase) : Type 0 where
  pub task : TaskInRange p.task
  pub poll : PollInRange is_arbitrator is_done p.poll

pub record SwapInRange (p : SwapPhase) : Type 0 where
  pub task : TaskInRange p.task
  pub old : IsTrue (is_config p.old)
  pub primary : IsTrue (is_among p.primary p.old.members)

pub record PromiseInRange (p : PromisePhase) : Type 0 where
  pub task : TaskInRange p.task
  pub members : IsTrue (are_members p.members)
  pub first : IsTrue (is_among p.first p.members)
  pub poll : PollInRange is_node is_standing p.poll

pub record VotesInRange (v : VoteTally) : Type 0 where
  pub arbitrators : v.arbitrators ≤ 9
  pub answers : All (λ a. IsTrue (is_config a.1)) v.answers

pub record VoteInRange (p : VotePhase) : Type 0 where
  pub task : TaskInRange p.task
  pub config : IsTrue (is_config p.config)
  pub source : SourceInRange p.source
  pub votes : VotesInRange p.votes

pub record CopyInRange (p : CopyPhase) : Type 0 where
  pub task : TaskInRange p.task
  pub config : IsTrue (is_config p.config)
  pub source : SourceInRange p.source
  pub poll : PollInRange is_node is_told p.poll

pub record DoneInRange (p : DonePhase) : Type 0 where
  pub task : TaskInRange p.task
  pub config : IsTrue (is_config p.config)
  pub poll : PollInRange is_arbitrator is_told p.poll

pub record ActivateInRange (p : ActivatePhase) : Type 0 where
  pub task : TaskInRange p.task
  pub config : IsTrue (is_config p.config)
  pub poll : PollInRange is_node is_told p.poll

abbrev pub ReconfigInRange : Reconfig → Type 0
ReconfigInRange (Prepare p) = PrepareInRange p
ReconfigInRange (Phase0 p) = SwapInRange p
ReconfigInRange (Phase1 p) = PromiseInRange p
ReconfigInRange (Decide p) = VoteInRange p
ReconfigInRange (Phase2 p) = CopyInRange p
ReconfigInRange (Phase3 p) = DoneInRange p
ReconfigInRange (Phase4 p) = ActivateInRange p

-- the units and the reconfigurations by partition
pub record ManagedInRange (s : Managed) : Type 0 where
  pub units : UnitsInRange s.units
  pub reconfigs : All (λ e. ReconfigInRange e.1) s.reconfigs
