-- What each step and each event does, and when an event may come. Nobody above unfolds these.
use Rattle.std.specs.Prelude.{◌≡◌, refl, ℕ, ◌+◌, Bool, not, ◌&&◌, List, Option, nat_le}
use Rattle.fabric_terms.specs.declared.command.Command.{Command}
use Rattle.fabric_terms.specs.declared.config.FabricConfig.{FabricConfig}
use Rattle.fabric_terms.specs.declared.event.Event.TheVariants.{Start, Stop, Tick, Fire, Give, Do, Junk}
use Rattle.ring_rules.specs.declared.input.Input.TheVariants as input
use Rattle.fabric_terms.specs.declared.message.Message.{Message}
use Rattle.fabric_terms.specs.declared.record.Record.{Record}
use Rattle.ring_points.specs.Whos.{node_instance}
use Rattle.ring_rules.specs.declared.input.Input.{Input}
use Rattle.ring_rules.specs.Arbiters.{no_table, table_after, takes_frame}
use Rattle.ring_rules.specs.Rings.{settings_of}
use Rattle.ring_rules.specs.Steps.{ring_step}
use Rattle.world_rules.specs.Nodes.{NodeState, node_begun, node_step, instance_starts, instance_begun, ring_did}
use Rattle.world_rules.specs.Arbiters.{ArbiterState, arbiter_begun, arbiter_step, arbiter_takes}
use Rattle.fabric_lemmas.specs.Maps.{at}
use Rattle.world_rules.specs.Uppers.{Upper}
use Rattle.world_rules.specs.Worlds.{World, frame_in, quiet}
use Rattle.world_rules.specs.Events.{world_step, starts, stops, ticks, acts_at, arrives, is_arbiter_actor}
use Rattle.world_rules.specs.Schedules.{is_there, may_start, runs, are_of, node_runs, command_names, keeps_bound, readings_fit}

module _ (a : Upper) (c : FabricConfig) where
  pub node_begun-is : (node : ℕ) (records : List Record) → node_begun a c node records ≡ instance_starts a c (node_instance node (instance_begun records)) records
  unfolding node_begun
  node_begun-is node records = refl

  pub node_step-is : (now : ℕ) (i : Input) (s : NodeState a) → node_step a c now i s ≡ ring_did a c now i s (ring_step (settings_of c s.ring.me.actor) now i s.ring)
  unfolding node_step
  node_step-is now i s = refl

  pub arbiter_begun-is : (arbiter : ℕ) (records : List Record) → arbiter_begun a c arbiter records ≡ record { table = table_after no_table records; beside = a.beside_begun c arbiter records }
  unfolding arbiter_begun
  arbiter_begun-is arbiter records = refl

  pub arbiter_step-is : (arbiter : ℕ) (m : Message) (s : ArbiterState a) → arbiter_step a c arbiter m s ≡ arbiter_takes a c arbiter m s m.body (takes_frame arbiter m)
  unfolding arbiter_step
  arbiter_step-is arbiter m s = refl

module _ (a : Upper) (c : FabricConfig) (w : World a) where
  pub world_step-start : (actor : ℕ) (reading : Option ℕ) → world_step a c w (Start actor reading) ≡ starts a c w actor reading
  unfolding world_step
  world_step-start actor reading = refl

  pub world_step-stop : (actor : ℕ) → world_step a c w (Stop actor) ≡ stops a w actor (is_arbiter_actor actor)
  unfolding world_step
  world_step-stop actor = refl

  pub world_step-tick : (advance : ℕ) (readings : List (ℕ × ℕ)) → world_step a c w (Tick advance readings) ≡ ticks a w (w.time + advance) readings
  unfolding world_step
  world_step-tick advance readings = refl

  pub world_step-fire : (node : ℕ) → world_step a c w (Fire node) ≡ acts_at a c w node input.Fire (at node w.nodes)
  unfolding world_step
  world_step-fire node = refl

  pub world_step-give : (frame : ℕ) → world_step a c w (Give frame) ≡ arrives a c w (frame_in w frame)
  unfolding world_step
  world_step-give frame = refl

  pub world_step-do : (node : ℕ) (command : Command) → world_step a c w (Do node command) ≡ acts_at a c w node (input.Do command) (at node w.nodes)
  unfolding world_step
  world_step-do node command = refl

  pub world_step-junk : (actor : ℕ) (bytes : List ℕ) → world_step a c w (Junk actor bytes) ≡ quiet a w
  unfolding world_step
  world_step-junk actor bytes = refl

module _ {a : Upper} (is_frame : List ℕ → Bool) (c : FabricConfig) (w : World a) where
  pub is_there-start : (actor : ℕ) (reading : Option ℕ) → is_there is_frame c w (Start actor reading) ≡ may_start c w actor reading
  unfolding is_there
  is_there-start actor reading = refl

  pub is_there-stop : (actor : ℕ) → is_there is_frame c w (Stop actor) ≡ runs w actor
  unfolding is_there
  is_there-stop actor = refl

  pub is_there-tick : (advance : ℕ) (readings : List (ℕ × ℕ)) → is_there is_frame c w (Tick advance readings) ≡ are_of readings w.nodes
  unfolding is_there
  is_there-tick advance readings = refl

  pub is_there-fire : (node : ℕ) → is_there is_frame c w (Fire node) ≡ node_runs w node
  unfolding is_there
  is_there-fire node = refl

  pub is_there-give : (frame : ℕ) → is_there is_frame c w (Give frame) ≡ (nat_le 1 frame && nat_le frame w.count)
  unfolding is_there
  is_there-give frame = refl

  pub is_there-do : (node : ℕ) (command : Command) → is_there is_frame c w (Do node command) ≡ (node_runs w node && command_names c node command)
  unfolding is_there
  is_there-do node command = refl

  pub is_there-junk : (actor : ℕ) (bytes : List ℕ) → is_there is_frame c w (Junk actor bytes) ≡ (runs w actor && not (is_frame bytes))
  unfolding is_there
  is_there-junk actor bytes = refl

module _ {a : Upper} (c : FabricConfig) (w : World a) where
  pub keeps_bound-tick : (advance : ℕ) (readings : List (ℕ × ℕ)) → keeps_bound c w (Tick advance readings) ≡ readings_fit c w (w.time + advance) readings
  unfolding keeps_bound
  keeps_bound-tick advance readings = refl
