-- The running actors of the code, as the rules see them, and what their calls do.
use Rattle.std.specs.Prelude.{◌≡◌, ℕ, true, false, List, [], All, IsTrue}
use Rattle.arbiter_core.specs.Arbiters.{Arbiter as ArbiterCore}
use Rattle.arbiter_tables.specs.Registers.{are_placed}
use Rattle.unit_rules.specs.Fabric.{fabric}
use Rattle.fabric_terms.specs.Messages.{is_sound as is_sound_frame}
use Rattle.fabric_terms.specs.Sent.{from_all}
use Rattle.fabric_terms.specs.Sound.{IsSound}
use Rattle.fabric_terms.specs.declared.config.FabricConfig.{FabricConfig}
use Rattle.fabric_terms.specs.declared.record.Record.{Record}
use Rattle.keep_log.specs.Amounts.{Holds}
use Rattle.keep_log.specs.Places.{is_once}
use Rattle.keep_log.specs.Spellings.{is_sound as is_sound_record}
use Rattle.keep_log.specs.declared.kept.Kept.{Kept}
use Rattle.node_core.specs.Nodes.{GoesBy}
use Rattle.ring_points.specs.Whos.{arbiter_actor}
use Rattle.ring_rules.specs.Arbiters.{no_table}
use Rattle.turn_members.specs.Lives.{Lives}
use Rattle.turn_members.specs.declared.deed.Deed.{Deed}
use Rattle.turn_members.specs.declared.member.Member.{Member as Running}
use Rattle.turn_members.specs.declared.member.Member.TheVariants as running
use Rattle.turn_rules.specs.Plans.{IsConfigured}
use Rattle.turn_rules.specs.Recalled.{IsGoodFor}
use Rattle.turn_rules.specs.Steps.{Member, Node, Arbiter, Stepped, exceeds}
use Rattle.turn_rules.specs.Works.{head_of}
use Rattle.world_rules.specs.Arbiters.{ArbiterState}

-- an arbitrator's state: its table, and beside it the registers
abbrev pub state_of : ArbiterCore → ArbiterState fabric
state_of a = record { table = a.table; beside = a.registers }

-- the actor as the rules see it
abbrev pub seen : Running → Member
seen (running.Node core) = Node core.value.state
seen (running.Arbiter actor arbiter) = Arbiter arbiter.number (state_of arbiter)

-- the actor goes by the configuration, and knows its number
abbrev pub GoesOn : FabricConfig → Running → Type 0
GoesOn c (running.Node core) = GoesBy c core.value
GoesOn c (running.Arbiter actor arbiter) = actor ≡ arbiter_actor arbiter.number

-- an actor of a sound configuration that runs
pub record IsOf (c : FabricConfig) (actor : ℕ) (m : Running) : Type 0 where
  pub sound : IsSound c
  pub configured : IsConfigured c actor
  pub goes_on : GoesOn c m
  pub lives : Lives c actor (seen m)
  -- it has room for what it has kept
  pub room : exceeds (seen m) ≡ false

-- what was done is what the rules say
pub record Makes (d : Stepped) (new : Member) (deed : Deed) : Type 0 where
  pub member : new ≡ d.member
  pub head : deed.head ≡ head_of d.step
  pub records : deed.outcome.records ≡ d.step.records
  pub frames : deed.outcome.frames ≡ from_all d.step.who d.step.sent
  pub reports : deed.outcome.reports ≡ d.step.told

-- and there is a place for what it keeps
pub record Does (d : Stepped) (new : Member) (deed : Deed) : Type 0 where
  pub makes : Makes d new deed
  pub room : exceeds d.member ≡ false

-- it is the actor's, and each record and each frame of it has a spelling
pub record IsDeedOf (actor : ℕ) (deed : Deed) : Type 0 where
  pub whose : deed.head.who.actor ≡ actor
  pub records : All (λ r. IsTrue (is_sound_record r)) deed.outcome.records
  pub frames : All (λ m. IsTrue (is_sound_frame m)) deed.outcome.frames

-- these records are good for the actor, and this is what they amount to
pub record IsKept (actor : ℕ) (records : List Record) (kept : Kept) : Type 0 where
  pub good : IsGoodFor actor records
  pub holds : Holds records kept
  pub once : is_once no_table kept.arbiter ≡ true
  pub placed : are_placed [] kept.arbiter ≡ true
