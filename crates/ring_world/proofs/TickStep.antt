-- A tick: the world stands for the world after it.
use Rattle.std.proofs.Common.{◌≡◌, ℕ, suc, ◌+◌, ◌≤◌, ◌<◌, Bool, true, false, List, [], ◌∷◌, Option, None, refl, sym, ap, subst, ◌∙◌, arith, length}
use Rattle.std.specs.Prelude.{◌&&◌, nat_le}
use Rattle.std.proofs.lemmas.Bool.Decides.{nat_tests}
use Rattle.drift_clock.specs.declared.drift.DriftBroken.{DriftBroken}
use Rattle.fabric_terms.specs.declared.event.Event.TheVariants.{Tick}
use Rattle.point_places.specs.Spots.{place_at}
use Rattle.ring_points.specs.declared.who.Who.{Who}
use Rattle.world_rules.specs.Events.{ticks, world_step}
use Rattle.fabric_lemmas.specs.Maps.{rises_from}
use Rattle.unit_rules.specs.Fabric.{fabric}
use Rattle.world_rules.specs.Schedules.{are_of, is_there, keeps_bound, readings_fit}
use Rattle.world_rules.specs.Worlds.{World as RuledWorld, Stepped}
use Rattle.world_rules.proofs.Rows.{is_there-tick, keeps_bound-tick, world_step-tick}
use Rattle.frame_format.specs.Kinds.{is_frame}
use Rattle.ring_world.specs.Drifts.{drift_broken, first_broken}
use Rattle.ring_world.specs.Moves.{Moves}
use Rattle.world_rules.specs.EventLimits.{has_room, most_events, most_time}
use Rattle.ring_world.specs.Seen.{Seen, seen_of}
use Rattle.ring_world.specs.Stands.{SeenStands, Stands}
use Rattle.ring_world.specs.Ticks.{Shows, after_tick, are_of_clocks}
use Rattle.ring_world.specs.declared.running.Running.{Running}
use Rattle.ring_world.specs.declared.world.World.{World}
use Rattle.ring_world.proofs.Growth.{arbiters_on}
use Rattle.ring_world.proofs.KeptNodes.{kept_follows, tick_run}
use Rattle.ring_world.proofs.Limits.{room_test}
use Rattle.ring_world.proofs.Nodes.{Ruled, run_numbered}
use Rattle.ring_world.proofs.TickReadings.{of_nodes}

-- what a tick names, and what it needs
module _ (a : World) (w : RuledWorld fabric) (advance : ℕ) (readings : List (ℕ × ℕ)) (st : Stands a w) where
  pub tick_of : (clocks : List (Who × ℕ)) (b : Bool) → clocks ≡ a.clocks.items → are_of_clocks readings clocks ≡ b → are_of readings w.nodes ≡ b
  tick_of clocks b same e =
      sym (of_nodes readings w.nodes (run_numbered a.config a.time a.running.items w.nodes st.nodes.running))
      ∙ (sym (ap (λ ks. are_of_clocks readings ks) (same ∙ st.nodes.clocks)) ∙ e)

  pub tick_there : (b : Bool) → are_of readings w.nodes ≡ b → is_there is_frame a.config w (Tick advance readings) ≡ b
  tick_there b e = is_there-tick is_frame a.config w advance readings ∙ e

  pub tick_bound : (b : Bool) → readings_fit a.config w (a.time + advance) readings ≡ b → keeps_bound a.config w (Tick advance readings) ≡ b
  tick_bound b e = keeps_bound-tick a.config w advance readings ∙ (ap (λ t. readings_fit a.config w (t + advance) readings) (sym st.time) ∙ e)

  pub tick_broken : (o : Option DriftBroken) → first_broken a.config w (a.time + advance) readings ≡ o → drift_broken a.config w (Tick advance readings) ≡ o
  unfolding drift_broken
  tick_broken o e = ap (λ t. first_broken a.config w (t + advance) readings) (sym st.time) ∙ e

  pub tick_room : has_room w a.events (Tick advance readings) ≡ (room_test a false && nat_le (a.time + advance) most_time)
  unfolding has_room
  tick_room = ap (λ t. room_test a false && nat_le (t + advance) most_time) (sym st.time)

  pub tick_in_time : room_test a false ≡ true → a.time + advance ≤ most_time → has_room w a.events (Tick advance readings) ≡ true
  tick_in_time room le =
      let early : nat_le (a.time + advance) most_time ≡ true = grind (arith, nat_tests) in
      tick_room ∙ (ap (λ b. b && nat_le (a.time + advance) most_time) room ∙ early)

  pub tick_full : room_test a false ≡ false → has_room w a.events (Tick advance readings) ≡ false
  tick_full full = tick_room ∙ ap (λ b. b && nat_le (a.time + advance) most_time) full

  pub tick_late : most_time < a.time + advance → has_room w a.events (Tick advance readings) ≡ false
  tick_late late =
      let past : nat_le (a.time + advance) most_time ≡ false = grind (arith, nat_tests) in
      tick_room ∙ (ap (λ b. room_test a false && b) past ∙ and_false (room_test a false))
    where
      and_false : (b : Bool) → (b && false) ≡ false
      and_false true = refl
      and_false false = refl

-- a tick changes no numbers

ticked-rises : (t : ℕ) (rs : List (ℕ × ℕ)) (low : ℕ) (es : List Ruled) → rises_from low (after_tick t rs es) ≡ rises_from low es
ticked-rises t rs low [] = refl
ticked-rises t rs low (e ∷ es) = ap (λ b. nat_le low e.0 && b) (ticked-rises t rs (e.0 + 1) es)

ticked-length : (t : ℕ) (rs : List (ℕ × ℕ)) (es : List Ruled) → length (after_tick t rs es) ≡ length es
ticked-length t rs [] = refl
ticked-length t rs (e ∷ es) = ap suc (ticked-length t rs es)

-- what a tick does
module _ (a : World) (w : RuledWorld fabric) (advance : ℕ) (readings : List (ℕ × ℕ)) (nodes : List Running) (clocks : List (Who × ℕ))
    (st : Stands a w) (shows : Shows a.config (a.time + advance) nodes clocks readings w.nodes) (few : a.events < most_events) (early : a.time + advance ≤ most_time) where
  abbrev time : ℕ
  time = a.time + advance

  abbrev seen_after : Seen
  seen_after = record (seen_of a) { time = time; events = a.events + 1; running = nodes; clocks = clocks }

  abbrev after : RuledWorld fabric
  after = (ticks fabric w time readings).world

  stands_after : SeenStands seen_after after
  stands_after = record {
    sound = st.sound;
    time = refl;
    in_time = early;
    few_events = omega arith;
    nodes = record {
      rise = ticked-rises time readings 0 w.nodes ∙ st.nodes.rise;
      running = shows.running;
      clocks = shows.clocks_are;
      few = let n = ticked-length time readings w.nodes in omega (arith, st.nodes.few);
      kept = kept_follows a.kept.items w after st.nodes.kept (tick_run time readings w.nodes) (λ node le. refl);
    };
    arbiters = arbiters_on (seen_of a) seen_after w after st.arbiters refl (λ k. refl) refl refl refl;
    frames = record { frames = st.frames.frames; counted = st.frames.counted; sent = st.frames.sent; few = st.frames.few };
  }

  step_is : world_step fabric a.config w (Tick advance readings) ≡ ticks fabric w time readings
  step_is = world_step-tick fabric a.config w advance readings ∙ ap (λ t. ticks fabric w (t + advance) readings) (sym st.time)

  pub tick_moves : (new : World) (line : ℕ) → seen_of new ≡ seen_after → new.places ≡ a.places → Moves a new (world_step fabric a.config w (Tick advance readings)) line None
  tick_moves new line seen places = subst (λ (x : Stepped fabric). Moves a new x line None) (sym step_is) (record {
    config = ap (λ (x : Seen). x.config) seen;
    events = ap (λ (x : Seen). x.events) seen;
    state = subst (λ (x : Seen). SeenStands x after) (sym seen) stands_after;
    places = λ p lt. ap (λ x. place_at x p) places;
    entry = refl;
    seen = tt;
  })

-- what is seen after the clocks were shown
pub seen_ticked : (a mid : World) (t : ℕ) → mid ≡ record a { running = mid.running; clocks = mid.clocks }
    → seen_of (record mid { time = t; events = mid.events + 1 }) ≡ record (seen_of a) { time = t; events = a.events + 1; running = mid.running.items; clocks = mid.clocks.items }
seen_ticked a mid t rest = ap (λ (x : World). seen_of (record x { time = t; events = x.events + 1; running = mid.running; clocks = mid.clocks })) rest
