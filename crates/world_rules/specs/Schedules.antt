-- Which schedules are valid.
use Rattle.std.specs.Prelude.{◌≡◌, ℕ, ◌+◌, Bool, true, false, not, ◌&&◌, List, [], ◌∷◌, Option, Some, None, ◌==◌, is_some, length, nat_le, nat_lt}
use Rattle.std.specs.List.{list_any}
use Rattle.ring_points.specs.Whos.{arbiter_actor}
use Rattle.fabric_terms.specs.declared.command.Command.{Command}
use Rattle.fabric_terms.specs.declared.command.Command.TheVariants as command
use Rattle.fabric_terms.specs.declared.config.FabricConfig.{FabricConfig}
use Rattle.fabric_terms.specs.declared.event.Event.{Event}
use Rattle.fabric_terms.specs.declared.event.Event.TheVariants.{Start, Stop, Tick, Fire, Give, Do, Junk}
use Rattle.drift_clock.specs.Within.{fits_all}
use Rattle.fabric_lemmas.specs.Maps.{at}
use Rattle.world_rules.specs.Uppers.{Upper}
use Rattle.world_rules.specs.Worlds.{World, Running}
use Rattle.world_rules.specs.Events.{is_arbiter_actor, arbiter_number}
use Rattle.world_rules.specs.Runs.{History, world_after}

abbrev pub is_configured_node : FabricConfig → ℕ → Bool
is_configured_node c node = list_any (λ e. e.node == node) c.nodes

abbrev pub is_configured_arbiter : FabricConfig → ℕ → Bool
is_configured_arbiter c actor = nat_lt (arbiter_actor 0) actor && nat_le actor (arbiter_actor (length c.arbiters))

abbrev pub node_runs : {a : Upper} → World a → ℕ → Bool
node_runs w node = is_some (at node w.nodes)

abbrev pub arbiter_runs : {a : Upper} → World a → ℕ → Bool
arbiter_runs w actor = is_some (at (arbiter_number actor) w.arbiters)

abbrev pub runs_as : {a : Upper} → World a → ℕ → Bool → Bool
runs_as w actor true = arbiter_runs w actor
runs_as w actor false = node_runs w actor

-- the actor runs
abbrev pub runs : {a : Upper} → World a → ℕ → Bool
runs w actor = runs_as w actor (is_arbiter_actor actor)

-- a configured actor may start that does not run, a node with a reading and an arbitrator with none
abbrev pub may_start : {a : Upper} → FabricConfig → World a → ℕ → Option ℕ → Bool
may_start c w actor (Some reading) = is_configured_node c actor && not (node_runs w actor)
may_start c w actor None = is_configured_arbiter c actor && not (arbiter_runs w actor)

-- the readings are of exactly these, in their order
abbrev pub are_of : {X : Type 0} → List (ℕ × ℕ) → List (ℕ × X) → Bool
are_of [] [] = true
are_of [] (n ∷ ns) = false
are_of (r ∷ rs) [] = false
are_of (r ∷ rs) (n ∷ ns) = r.0 == n.0 && are_of rs ns

-- the node that a command names is configured, and another where the command is about a link
abbrev pub command_names : FabricConfig → ℕ → Command → Bool
command_names c node (command.Link other) = is_configured_node c other && not (other == node)
command_names c node (command.LinkFor other length) = is_configured_node c other && not (other == node)
command_names c node (command.Part other) = is_configured_node c other && not (other == node)
command_names c node (command.GiveNear other) = is_configured_node c other && not (other == node)
command_names c node (command.GiveAll other) = is_configured_node c other && not (other == node)
command_names c node (command.Join other) = is_configured_node c other && not (other == node)
command_names c node (command.Swap partition other) = is_configured_node c other
command_names c node (command.Lose partition other) = is_configured_node c other
command_names c node _ = true

-- what the event names is there; `is_frame` says whether bytes are a frame
unfoldable pub is_there : {a : Upper} → (List ℕ → Bool) → FabricConfig → World a → Event → Bool
is_there is_frame c w (Start actor reading) = may_start c w actor reading
is_there is_frame c w (Stop actor) = runs w actor
is_there is_frame c w (Tick advance readings) = are_of readings w.nodes
is_there is_frame c w (Fire node) = node_runs w node
is_there is_frame c w (Give frame) = nat_le 1 frame && nat_le frame w.count
is_there is_frame c w (Do node command) = node_runs w node && command_names c node command
is_there is_frame c w (Junk actor bytes) = runs w actor && not (is_frame bytes)

-- each reading of a tick is within the bound of every earlier pair of its boot

abbrev pub fits_pairs : {a : Upper} → FabricConfig → ℕ → ℕ → Option (Running a) → Bool
fits_pairs c time reading None = true
fits_pairs c time reading (Some s) = fits_all c.bound s.pairs (time, reading)

abbrev pub readings_fit : {a : Upper} → FabricConfig → World a → ℕ → List (ℕ × ℕ) → Bool
readings_fit c w time [] = true
readings_fit c w time (r ∷ rs) = fits_pairs c time r.1 (at r.0 w.nodes) && readings_fit c w time rs

unfoldable pub keeps_bound : {a : Upper} → FabricConfig → World a → Event → Bool
keeps_bound c w (Tick advance readings) = readings_fit c w (w.time + advance) readings
keeps_bound c w _ = true

-- the event may come next
pub record MayCome {a : Upper} (is_frame : List ℕ → Bool) (c : FabricConfig) (w : World a) (e : Event) : Type 0 where
  pub there : is_there is_frame c w e ≡ true
  pub bound : keeps_bound c w e ≡ true

-- at each event what it names is there, and the pairs of each boot are within the bound
abbrev pub Valid : (a : Upper) → (List ℕ → Bool) → FabricConfig → History → Type 0
Valid a is_frame c [] = Unit {0}
Valid a is_frame c (e ∷ es) = Valid a is_frame c es × MayCome is_frame c (world_after a c es) e.1
