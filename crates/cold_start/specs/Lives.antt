-- A cluster that comes back after all its nodes have stopped: its lives, one after the other.
use Rattle.std.specs.Prelude.{◌≡◌, ℕ, ◌<◌, List, [], ◌∷◌, Some, map, Bool}
use Rattle.fabric_terms.specs.declared.config.FabricConfig.{FabricConfig}
use Rattle.fabric_terms.specs.declared.event.Event.{Event}
use Rattle.fabric_terms.specs.declared.event.Event.TheVariants.{Start}
use Rattle.fabric_terms.specs.Runs.{Run}
use Rattle.ring_points.specs.declared.who.Who.{Who}
use Rattle.world_rules.specs.Events.{world_step}
use Rattle.world_rules.specs.Nodes.{boots_of}
use Rattle.world_rules.specs.Runs.{History, moment_of}
use Rattle.world_rules.specs.Schedules.{MayCome}
use Rattle.world_rules.specs.Uppers.{Upper}
use Rattle.world_rules.specs.Worlds.{World, Stepped, empty_world, kept_of, node_acted, quiet}
use Rattle.world_rules.specs.Starts.{first_whole, node_begun_in}

-- an event of a schedule comes, or a new life begins, in which this instance begins with the whole ring
pub data Happening : Type 0 where
  Comes : Event → Happening
  Again : (whole : Who) → Happening

-- what happened, with the numbers of lines, the newest first; a life is what stands between two Agains
abbrev pub Lives : Type 0
Lives = List (ℕ × Happening)

-- one life: the events of a schedule
abbrev pub one_life : History → Lives
one_life h = map (λ e. (e.0, Comes e.1)) h

abbrev pub whole_with : Happening → Who → Who
whole_with (Comes e) before = before
whole_with (Again whole) before = whole

-- who begins with the whole ring in the present life
abbrev pub whole_after : FabricConfig → Lives → Who
whole_after c [] = first_whole c
whole_after c (e ∷ es) = whole_with e.1 (whole_after c es)

-- an event does what it does in any world, and a start begins with the whole ring where this life says so
abbrev pub life_step : (a : Upper) → (whole : Who) → FabricConfig → World a → Event → Stepped a
life_step a whole c w (Start node (Some reading)) = node_acted a w node reading ((w.time, reading) ∷ []) (node_begun_in a whole c node (kept_of w node))
life_step a whole c w e = world_step a c w e

-- a new life has what was kept: synced records, frames and the true time; arbitrators run on, or not
abbrev pub happened : (a : Upper) → (whole : Who) → FabricConfig → World a → Happening → Stepped a
happened a whole c w (Comes e) = life_step a whole c w e
happened a whole c w (Again next) = quiet a w

-- the last step, and the world and the run after it
abbrev pub lives_world : (a : Upper) → FabricConfig → Lives → World a
lives_world a c [] = empty_world a
lives_world a c (e ∷ es) = (happened a (whole_after c es) c (lives_world a c es) e.1).world

abbrev pub lives_step : (a : Upper) → FabricConfig → Lives → Happening → Stepped a
lives_step a c l e = happened a (whole_after c l) c (lives_world a c l) e

abbrev pub lives_run : (a : Upper) → FabricConfig → Lives → Run
lives_run a c [] = []
lives_run a c (e ∷ es) = moment_of {a = a} e.0 (lives_step a c es e.1) ∷ lives_run a c es

-- the run of the present life
abbrev pub this_life : (a : Upper) → FabricConfig → Lives → Run
this_life a c [] = []
this_life a c ((line, Comes e) ∷ es) = moment_of {a = a} line (lives_step a c es (Comes e)) ∷ this_life a c es
this_life a c ((line, Again whole) ∷ es) = []

-- no node runs, and the instance has not run by the records of its node
pub record MayBeAgain {a : Upper} (w : World a) (whole : Who) : Type 0 where
  pub over : w.nodes ≡ []
  pub new : boots_of (kept_of w whole.actor) < whole.instance

-- it may happen next
abbrev pub MayHappen : {a : Upper} → (is_frame : List ℕ → Bool) → FabricConfig → World a → Happening → Type 0
MayHappen is_frame c w (Comes e) = MayCome is_frame c w e
MayHappen is_frame c w (Again whole) = MayBeAgain w whole

-- each thing that happens may happen there
abbrev pub ValidLives : (a : Upper) → (List ℕ → Bool) → FabricConfig → Lives → Type 0
ValidLives a is_frame c [] = Unit {0}
ValidLives a is_frame c (e ∷ es) = ValidLives a is_frame c es × MayHappen is_frame c (lives_world a c es) e.1
