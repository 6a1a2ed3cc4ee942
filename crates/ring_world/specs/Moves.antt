-- What an event makes of a world of the code, by the world of the rules that it stands for.
use Rattle.std.specs.Prelude.{◌≡◌, ℕ, ◌+◌, ◌<◌, ◌^◌, true, false, List, [], ◌∷◌, Option, Some, None, Result, Ok, Err, is_some}
use Rattle.fabric_terms.specs.Places.{Place, place_after}
use Rattle.fabric_terms.specs.Runs.{Entry}
use Rattle.fabric_terms.specs.declared.event.Event.{Event}
use Rattle.fabric_terms.specs.declared.memory.OutOfMemory.{OutOfMemory as NoMemory}
use Rattle.fabric_terms.specs.declared.report.Report.{Report}
use Rattle.point_places.specs.Spots.{place_at}
use Rattle.ring_points.specs.declared.who.Who.{Who}
use Rattle.world_rules.specs.Events.{world_step}
use Rattle.unit_rules.specs.Fabric.{fabric}
use Rattle.world_rules.specs.Schedules.{is_there, keeps_bound}
use Rattle.world_rules.specs.Worlds.{World as RuledWorld, Stepped}
use Rattle.ring_world.specs.Answers.{entry_of, wants_memory, IsSeenAt}
use Rattle.frame_format.specs.Kinds.{is_frame}
use Rattle.ring_world.specs.Drifts.{drift_broken}
use Rattle.world_rules.specs.EventLimits.{has_room}
use Rattle.ring_world.specs.Seen.{seen_of}
use Rattle.ring_world.specs.Stands.{Stands}
use Rattle.ring_world.specs.declared.world.Acted.{Acted}
use Rattle.ring_world.specs.declared.world.EventRefusal.{EventRefusal}
use Rattle.ring_world.specs.declared.world.EventRefusal.TheVariants.{NoSuch, DriftBroken as BrokenDrift, TooLarge, OutOfMemory}
use Rattle.ring_world.specs.declared.world.World.{World}

-- the place of a point after these reports of one actor, in their order
abbrev pub placed_by : Who → List Report → ℕ → Place → Place
placed_by who [] p place = place
placed_by who (r ∷ rs) p place = placed_by who rs p (place_after who r p place)

abbrev pub placed_in : Option Entry → ℕ → Place → Place
placed_in None p place = place
placed_in (Some e) p place = placed_by e.who e.reports p place

-- the world is now as after this step, and what an actor did is what the step has of it
pub record Moves (old new : World) (st : Stepped fabric) (line : ℕ) (acted : Option Acted) : Type 0 where
  pub config : new.config ≡ old.config
  pub events : new.events ≡ old.events + 1
  pub state : Stands new st.world
  pub places : (p : ℕ) → p < 2 ^ 64 → place_at new.places p ≡ placed_in st.entry p (place_at old.places p)
  pub entry : entry_of acted ≡ st.entry
  pub seen : IsSeenAt line st.world.time acted

-- nothing that tells in any history has changed
pub record Same (old new : World) : Type 0 where
  pub seen : seen_of new ≡ seen_of old
  pub places : (p : ℕ) → p < 2 ^ 64 → place_at new.places p ≡ place_at old.places p

pub record MayCome (a : World) (w : RuledWorld fabric) (e : Event) : Type 0 where
  pub there : is_there is_frame a.config w e ≡ true
  pub bound : keeps_bound a.config w e ≡ true
  pub room : has_room w a.events e ≡ true

-- why an event may not come, as the world of the rules says
abbrev pub MayNot : EventRefusal → World → RuledWorld fabric → Event → Type 0
MayNot NoSuch a w e = is_there is_frame a.config w e ≡ false
MayNot (BrokenDrift broken) a w e =
    (is_there is_frame a.config w e ≡ true) × (keeps_bound a.config w e ≡ false) × (drift_broken a.config w e ≡ Some broken)
MayNot TooLarge a w e =
    (is_there is_frame a.config w e ≡ true) × (keeps_bound a.config w e ≡ true) × (has_room w a.events e ≡ false)
MayNot OutOfMemory a w e = MayCome a w e × (wants_memory a.config w e ≡ true)

-- what is answered to an event
abbrev pub Comes : World → World → RuledWorld fabric → ℕ → Event → Result (Option Acted) EventRefusal → Type 0
Comes old new w line e (Ok acted) = MayCome old w e × Moves old new (world_step fabric old.config w e) line acted
Comes old new w line e (Err refusal) = MayNot refusal old w e × Same old new

-- what is answered where an actor does something, if there is memory
abbrev pub Steps : World → World → Stepped fabric → ℕ → Result Acted NoMemory → Type 0
Steps old new st line (Ok acted) = Moves old new st line (Some acted)
Steps old new st line (Err _) = Same old new

-- the same where perhaps nobody does anything, and then memory is not wanted
abbrev pub Delivers : World → World → Stepped fabric → ℕ → Result (Option Acted) NoMemory → Type 0
Delivers old new st line (Ok acted) = Moves old new st line acted
Delivers old new st line (Err _) = (is_some st.entry ≡ true) × Same old new

-- what is answered to a tick
abbrev pub ComesTick : World → World → RuledWorld fabric → ℕ → Event → Result (Unit {0}) EventRefusal → Type 0
ComesTick old new w line e (Ok u) = MayCome old w e × Moves old new (world_step fabric old.config w e) line None
ComesTick old new w line e (Err refusal) = MayNot refusal old w e × Same old new
