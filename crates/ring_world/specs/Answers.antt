-- Which histories a world stands for, and what it answers to an event.
use Rattle.std.specs.Prelude.{◌≡◌, ℕ, Bool, true, false, ◌∷◌, Option, Some, None, Result, Ok, Err, All, is_some, length}
use Rattle.fabric_terms.specs.Runs.{Entry}
use Rattle.fabric_terms.specs.Sound.{IsSound}
use Rattle.fabric_terms.specs.declared.config.FabricConfig.{FabricConfig}
use Rattle.fabric_terms.specs.declared.event.Event.{Event}
use Rattle.frame_format.specs.Kinds.{is_frame}
use Rattle.fabric_terms.specs.Ranges.{Fits}
use Rattle.world_rules.specs.Events.{world_step}
use Rattle.unit_rules.specs.Fabric.{fabric}
use Rattle.unit_rules.specs.Ruled.{ruled}
use Rattle.world_rules.specs.Runs.{History}
use Rattle.world_rules.specs.Schedules.{Valid, is_there, keeps_bound}
use Rattle.world_rules.specs.Worlds.{World as RuledWorld}
use Rattle.ring_world.specs.Drifts.{drift_broken}
use Rattle.ring_world.specs.Keeps.{Keeps}
use Rattle.world_rules.specs.EventLimits.{has_room}
use Rattle.ring_world.specs.declared.world.Acted.{Acted}
use Rattle.ring_world.specs.declared.world.EventRefusal.{EventRefusal}
use Rattle.ring_world.specs.declared.world.EventRefusal.TheVariants.{NoSuch, DriftBroken as BrokenDrift, TooLarge, OutOfMemory}
use Rattle.ring_world.specs.declared.world.World.{World}

-- The world stands for a valid history of a sound configuration, whose events are in the ranges of schedules.
pub record StandsFor (a : World) (c : FabricConfig) (h : History) : Type 0 where
  pub config : a.config ≡ c
  pub sound : IsSound c
  pub fits : All (λ e. Fits e.1) h
  pub valid : Valid fabric is_frame c h
  pub keeps : Keeps a c h

-- it stands for some
abbrev pub IsWorld : World → Type 0
IsWorld a = (c : FabricConfig) × (h : History) × StandsFor a c h

-- the event may come next: what it names is there, no clock leaves its bound, and no limit is passed
pub record Accepts (c : FabricConfig) (h : History) (e : Event) : Type 0 where
  pub there : is_there is_frame c (ruled c h) e ≡ true
  pub bound : keeps_bound c (ruled c h) e ≡ true
  pub room : has_room (ruled c h) (length h) e ≡ true

-- only an event at which an actor does something may want memory: no tick, no junk and no frame that is lost
abbrev pub wants_memory : FabricConfig → RuledWorld fabric → Event → Bool
wants_memory c w e = is_some (world_step fabric c w e).entry

-- it is refused: for the first of these that fails, or for want of memory, where it may come
abbrev pub Refuses : EventRefusal → FabricConfig → History → Event → Type 0
Refuses NoSuch c h e = is_there is_frame c (ruled c h) e ≡ false
Refuses (BrokenDrift broken) c h e =
    (is_there is_frame c (ruled c h) e ≡ true) × (keeps_bound c (ruled c h) e ≡ false) × (drift_broken c (ruled c h) e ≡ Some broken)
Refuses TooLarge c h e =
    (is_there is_frame c (ruled c h) e ≡ true) × (keeps_bound c (ruled c h) e ≡ true) × (has_room (ruled c h) (length h) e ≡ false)
Refuses OutOfMemory c h e = Accepts c h e × (wants_memory c (ruled c h) e ≡ true)

-- what an actor did, as it is seen
abbrev pub entry_of : Option Acted → Option Entry
entry_of None = None
entry_of (Some a) = Some (record { who = a.who; reading = a.reading; sent = a.sent; reports = a.reports })

-- it is seen at this line and time
abbrev pub IsSeenAt : ℕ → ℕ → Option Acted → Type 0
IsSeenAt line time None = Unit {0}
IsSeenAt line time (Some a) = (a.line ≡ line) × (a.time ≡ time)

-- the event was taken: the world stands for the longer history, and what an actor did is what the rules say
pub record Takes (new : World) (c : FabricConfig) (h : History) (line : ℕ) (e : Event) (acted : Option Acted) : Type 0 where
  pub accepted : Accepts c h e
  pub stands : StandsFor new c ((line, e) ∷ h)
  pub entry : entry_of acted ≡ (world_step fabric c (ruled c h) e).entry
  pub seen : IsSeenAt line (world_step fabric c (ruled c h) e).world.time acted

-- a refused event changes nothing
pub record Stays (new : World) (c : FabricConfig) (h : History) (e : Event) (refusal : EventRefusal) : Type 0 where
  pub refused : Refuses refusal c h e
  pub stands : StandsFor new c h

-- what is answered to an event
abbrev pub Answers : World → FabricConfig → History → ℕ → Event → Result (Option Acted) EventRefusal → Type 0
Answers new c h line e (Ok acted) = Takes new c h line e acted
Answers new c h line e (Err refusal) = Stays new c h e refusal

-- what is answered to a tick
abbrev pub AnswersTick : World → FabricConfig → History → ℕ → Event → Result (Unit {0}) EventRefusal → Type 0
AnswersTick new c h line e (Ok u) = Takes new c h line e None
AnswersTick new c h line e (Err refusal) = Stays new c h e refusal
