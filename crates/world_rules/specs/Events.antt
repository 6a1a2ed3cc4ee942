-- What each event does to the world.
use Rattle.std.specs.Prelude.{ℕ, ◌+◌, ◌-◌, Bool, true, false, ◌||◌, List, [], ◌∷◌, Option, Some, None, ◌==◌, map, nat_lt, unwrap_or}
use Rattle.ring_points.specs.Whos.{arbiter_actor}
use Rattle.fabric_terms.specs.declared.config.FabricConfig.{FabricConfig}
use Rattle.fabric_terms.specs.declared.event.Event.{Event}
use Rattle.fabric_terms.specs.declared.event.Event.TheVariants.{Start, Stop, Tick, Fire, Give, Do, Junk}
use Rattle.fabric_terms.specs.declared.message.Message.{Message}
use Rattle.fabric_terms.specs.declared.record.Record.{Record}
use Rattle.fabric_terms.specs.declared.report.Report.{Report}
use Rattle.fabric_terms.specs.declared.report.Report.TheVariants.{Stopped}
use Rattle.fabric_terms.specs.Runs.{Entry}
use Rattle.ring_rules.specs.declared.input.Input.{Input}
use Rattle.ring_rules.specs.declared.input.Input.TheVariants as input
use Rattle.fabric_lemmas.specs.Maps.{at, put, without}
use Rattle.world_rules.specs.Uppers.{Upper}
use Rattle.world_rules.specs.Nodes.{node_begun, node_step}
use Rattle.world_rules.specs.Arbiters.{ArbiterState, arbiter_begun, arbiter_step}
use Rattle.world_rules.specs.Worlds.{World, Running, Stepped, quiet, kept_of, frame_in, node_acted, arbiter_who, arbiter_acted}

abbrev pub is_arbiter_actor : ℕ → Bool
is_arbiter_actor actor = nat_lt (arbiter_actor 0) actor

abbrev pub arbiter_number : ℕ → ℕ
arbiter_number actor = actor - arbiter_actor 0

-- Starts, from the kept records. The reading at a start is the first pair of the boot.

-- nothing is seen of an arbitrator's start, and of its stop no more than that
abbrev pub arbiter_seen : ℕ → List Report → Option Entry
arbiter_seen m reports = Some (record { who = arbiter_who m; reading = None; sent = (0, 0); reports = reports })

abbrev pub starts_with : (a : Upper) → FabricConfig → World a → ℕ → Option ℕ → List Record → Stepped a
starts_with a c w actor (Some reading) records = node_acted a w actor reading ((w.time, reading) ∷ []) (node_begun a c actor records)
starts_with a c w actor None records =
    record {
      world = record w { arbiters = put (arbiter_number actor) (arbiter_begun a c (arbiter_number actor) records) w.arbiters };
      entry = arbiter_seen (arbiter_number actor) [];
    }

abbrev pub starts : (a : Upper) → FabricConfig → World a → ℕ → Option ℕ → Stepped a
starts a c w actor reading = starts_with a c w actor reading (kept_of w actor)

-- Stops.

abbrev pub node_stops : (a : Upper) → World a → ℕ → Option (Running a) → Stepped a
node_stops a w n None = quiet a w
node_stops a w n (Some s) =
    record {
      world = record w { nodes = without n w.nodes };
      entry = Some (record { who = s.node.ring.me; reading = Some s.reading; sent = (0, 0); reports = Stopped ∷ [] });
    }

abbrev pub arbiter_stops : (a : Upper) → World a → ℕ → Option (ArbiterState a) → Stepped a
arbiter_stops a w m None = quiet a w
arbiter_stops a w m (Some s) = record { world = record w { arbiters = without m w.arbiters }; entry = arbiter_seen m (Stopped ∷ []) }

abbrev pub stops : (a : Upper) → World a → ℕ → Bool → Stepped a
stops a w actor true = arbiter_stops a w (arbiter_number actor) (at (arbiter_number actor) w.arbiters)
stops a w actor false = node_stops a w actor (at actor w.nodes)

-- Ticks.

-- the clock shows this reading at this time
abbrev pub shows : {a : Upper} → ℕ → ℕ → Running a → Running a
shows time reading s = record s { reading = reading; pairs = (time, reading) ∷ s.pairs }

-- each node's clock shows the reading that the tick names for it, and else the one before
abbrev pub ticked : {a : Upper} → ℕ → List (ℕ × ℕ) → ℕ × Running a → ℕ × Running a
ticked time readings n = (n.0, shows time (unwrap_or (at n.0 readings) n.1.reading) n.1)

abbrev pub ticks : (a : Upper) → World a → ℕ → List (ℕ × ℕ) → Stepped a
ticks a w time readings = quiet a (record w { time = time; nodes = map (ticked {a = a} time readings) w.nodes })

-- Firings, commands and frames.

abbrev pub node_acts : (a : Upper) → FabricConfig → World a → ℕ → Input → Running a → Stepped a
node_acts a c w n i s = node_acted a w n s.reading s.pairs (node_step a c s.reading i s.node)

abbrev pub acts_at : (a : Upper) → FabricConfig → World a → ℕ → Input → Option (Running a) → Stepped a
acts_at a c w n i None = quiet a w
acts_at a c w n i (Some s) = node_acts a c w n i s

-- a frame to another instance than the one that runs is lost
abbrev pub arrives_if : (a : Upper) → FabricConfig → World a → Message → Running a → Bool → Stepped a
arrives_if a c w m s true = node_acts a c w m.to.actor (input.Frame m) s
arrives_if a c w m s false = quiet a w

abbrev pub arrives_at_node : (a : Upper) → FabricConfig → World a → Message → Option (Running a) → Stepped a
arrives_at_node a c w m None = quiet a w
arrives_at_node a c w m (Some s) = arrives_if a c w m s (m.to.instance == 0 || m.to.instance == s.node.ring.me.instance)

abbrev pub arrives_at_arbiter : (a : Upper) → FabricConfig → World a → Message → ℕ → Option (ArbiterState a) → Stepped a
arrives_at_arbiter a c w m arbiter None = quiet a w
arrives_at_arbiter a c w m arbiter (Some s) = arbiter_acted a w arbiter (arbiter_step a c arbiter m s)

abbrev pub arrives_at : (a : Upper) → FabricConfig → World a → Message → Bool → Stepped a
arrives_at a c w m true = arrives_at_arbiter a c w m (arbiter_number m.to.actor) (at (arbiter_number m.to.actor) w.arbiters)
arrives_at a c w m false = arrives_at_node a c w m (at m.to.actor w.nodes)

abbrev pub arrives : (a : Upper) → FabricConfig → World a → Option Message → Stepped a
arrives a c w None = quiet a w
arrives a c w (Some m) = arrives_at a c w m (is_arbiter_actor m.to.actor)

-- what an event does; bytes that are no frame do nothing
unfoldable pub world_step : (a : Upper) → FabricConfig → World a → Event → Stepped a
world_step a c w (Start actor reading) = starts a c w actor reading
world_step a c w (Stop actor) = stops a w actor (is_arbiter_actor actor)
world_step a c w (Tick advance readings) = ticks a w (w.time + advance) readings
world_step a c w (Fire node) = acts_at a c w node input.Fire (at node w.nodes)
world_step a c w (Give frame) = arrives a c w (frame_in w frame)
world_step a c w (Do node command) = acts_at a c w node (input.Do command) (at node w.nodes)
world_step a c w (Junk actor bytes) = quiet a w
