-- A cluster of actors in one process, by the rules, and the schedule that it is.
use Rattle.std.specs.Prelude.{◌≡◌, ◌≤◌, ℕ, ◌+◌, ◌-◌, Bool, true, false, ◌||◌, ◌==◌, List, [], ◌∷◌, ◌++◌, Option, Some, None, map, length, slice_get, unwrap_or}
use Rattle.ring_points.specs.Whos.{arbiter_actor}
use Rattle.fabric_terms.specs.declared.command.Command.{Command}
use Rattle.fabric_terms.specs.declared.config.FabricConfig.{FabricConfig}
use Rattle.fabric_terms.specs.declared.event.Event.{Event}
use Rattle.fabric_terms.specs.declared.event.Event.TheVariants as event
use Rattle.fabric_terms.specs.declared.message.Message.{Message}
use Rattle.fabric_terms.specs.declared.record.Record.{Record}
use Rattle.ring_rules.specs.declared.input.Input.{Input}
use Rattle.ring_rules.specs.declared.input.Input.TheVariants as input
use Rattle.world_rules.specs.Arbiters.{ArbiterState, arbiter_begun, arbiter_step}
use Rattle.world_rules.specs.Events.{is_arbiter_actor, arbiter_number}
use Rattle.fabric_lemmas.specs.Maps.{at, put}
use Rattle.world_rules.specs.Nodes.{NodeState, node_begun, node_step}
use Rattle.world_rules.specs.Runs.{History}
use Rattle.world_rules.specs.Schedules.{is_configured_node, is_configured_arbiter, command_names}
use Rattle.world_rules.specs.Uppers.{Upper, Did}
use Rattle.world_rules.specs.Worlds.{posted, arbiter_who}

-- the last reading, the running actors by their numbers, what is kept of each, and the frames that were sent, the
-- newest first
pub record Cluster (a : Upper) : Type 0 where
  pub time : ℕ
  pub nodes : List (ℕ × NodeState a)
  pub arbiters : List (ℕ × ArbiterState a)
  pub kept : List (ℕ × List Record)
  pub frames : List Message
  pub count : ℕ

abbrev pub no_cluster : (a : Upper) → Cluster a
no_cluster a = record { time = 0; nodes = []; arbiters = []; kept = []; frames = []; count = 0 }

-- What comes, each to its actor. A frame comes by its number among those sent. What changes nothing is left out.
pub data Comes : Type 0 where
  Begins : (node reading : ℕ) → Comes
  Stands : (arbiter : ℕ) → Comes
  Turns : (reading : ℕ) → Comes
  Bids : (node : ℕ) (command : Command) → Comes
  Hears : (frame : ℕ) → Comes
  Fires : (node : ℕ) → Comes

abbrev pub kept_by : {a : Upper} → Cluster a → ℕ → List Record
kept_by p actor = unwrap_or (at actor p.kept) []

abbrev pub frame_of : {a : Upper} → Cluster a → ℕ → Option Message
frame_of p number = slice_get p.frames (p.count - number)

-- a node's step
abbrev pub node_did : {a : Upper} → Cluster a → ℕ → Did (NodeState a) → Cluster a
node_did p n d =
    record p {
      nodes = put n d.state p.nodes;
      kept = put d.state.ring.me.actor (kept_by p d.state.ring.me.actor ++ d.records) p.kept;
      frames = posted d.state.ring.me d.sent p.frames;
      count = p.count + length d.sent;
    }

abbrev pub arbiter_did : {a : Upper} → Cluster a → ℕ → Did (ArbiterState a) → Cluster a
arbiter_did p m d =
    record p {
      arbiters = put m d.state p.arbiters;
      kept = put (arbiter_who m).actor (kept_by p (arbiter_who m).actor ++ d.records) p.kept;
      frames = posted (arbiter_who m) d.sent p.frames;
      count = p.count + length d.sent;
    }

abbrev pub node_does : (a : Upper) → FabricConfig → Cluster a → ℕ → Input → Option (NodeState a) → Cluster a
node_does a c p n i None = p
node_does a c p n i (Some s) = node_did p n (node_step a c p.time i s)

abbrev pub arbiter_does : (a : Upper) → FabricConfig → Cluster a → ℕ → Message → Option (ArbiterState a) → Cluster a
arbiter_does a c p m frame None = p
arbiter_does a c p m frame (Some s) = arbiter_did p m (arbiter_step a c m frame s)

abbrev pub hears_as : (a : Upper) → FabricConfig → Cluster a → Message → Bool → Cluster a
hears_as a c p m true = arbiter_does a c p (arbiter_number m.to.actor) m (at (arbiter_number m.to.actor) p.arbiters)
hears_as a c p m false = node_does a c p m.to.actor (input.Frame m) (at m.to.actor p.nodes)

abbrev pub hears : (a : Upper) → FabricConfig → Cluster a → Option Message → Cluster a
hears a c p None = p
hears a c p (Some m) = hears_as a c p m (is_arbiter_actor m.to.actor)

-- what each makes of the cluster
abbrev pub comes : (a : Upper) → FabricConfig → Cluster a → Comes → Cluster a
comes a c p (Begins n reading) = node_did (record p { time = reading }) n (node_begun a c n (kept_by p n))
comes a c p (Stands m) = record p { arbiters = put m (arbiter_begun a c m (kept_by p (arbiter_actor m))) p.arbiters }
comes a c p (Turns reading) = record p { time = reading }
comes a c p (Bids n command) = node_does a c p n (input.Do command) (at n p.nodes)
comes a c p (Hears k) = hears a c p (frame_of p k)
comes a c p (Fires n) = node_does a c p n input.Fire (at n p.nodes)

abbrev pub cluster_after : (a : Upper) → FabricConfig → List Comes → Cluster a
cluster_after a c [] = no_cluster a
cluster_after a c (x ∷ xs) = comes a c (cluster_after a c xs) x

-- The events: at each reading the time goes on to it, and every running node's clock shows it.

abbrev pub all_show : {X : Type 0} → ℕ → List (ℕ × X) → List (ℕ × ℕ)
all_show reading nodes = map (λ n. (n.0, reading)) nodes

abbrev pub tick_to : {a : Upper} → Cluster a → ℕ → Event
tick_to p reading = event.Tick (reading - p.time) (all_show reading p.nodes)

abbrev pub events_for : {a : Upper} → Cluster a → Comes → List Event
events_for p (Begins n reading) = event.Start n (Some reading) ∷ tick_to p reading ∷ []
events_for p (Stands m) = event.Start (arbiter_actor m) None ∷ []
events_for p (Turns reading) = tick_to p reading ∷ []
events_for p (Bids n command) = event.Do n command ∷ []
events_for p (Hears k) = event.Give k ∷ []
events_for p (Fires n) = event.Fire n ∷ []

abbrev pub on_lines : List Event → History → History
on_lines [] h = h
on_lines (e ∷ es) h = (length (on_lines es h) + 2, e) ∷ on_lines es h

-- the schedule that this is
abbrev pub events_of : (a : Upper) → FabricConfig → List Comes → History
events_of a c [] = []
events_of a c (x ∷ xs) = on_lines (events_for (cluster_after a c xs) x) (events_of a c xs)

-- a frame that comes was sent, to an instance that runs
abbrev pub FitsInstance : {a : Upper} → Cluster a → Message → Bool → Type 0
FitsInstance p m true = Unit {0}
FitsInstance {a} p m false = (s : NodeState a) → at m.to.actor p.nodes ≡ Some s → (m.to.instance == 0 || m.to.instance == s.ring.me.instance) ≡ true

-- it may come: who starts is configured and does not run yet, who acts runs, readings do not fall, and a frame was sent
abbrev pub MayArrive : (a : Upper) → FabricConfig → Cluster a → Comes → Type 0
MayArrive a c p (Begins n reading) = (is_configured_node c n ≡ true) × (at n p.nodes ≡ None) × (p.time ≤ reading)
MayArrive a c p (Stands m) = (is_configured_arbiter c (arbiter_actor m) ≡ true) × (at m p.arbiters ≡ None)
MayArrive a c p (Turns reading) = p.time ≤ reading
MayArrive a c p (Bids n command) = (s : NodeState a) × ((at n p.nodes ≡ Some s) × (command_names c n command ≡ true))
MayArrive a c p (Hears k) = (m : Message) × ((1 ≤ k) × (k ≤ p.count) × (frame_of p k ≡ Some m) × FitsInstance p m (is_arbiter_actor m.to.actor))
MayArrive a c p (Fires n) = (s : NodeState a) × (at n p.nodes ≡ Some s)

abbrev pub IsCluster : (a : Upper) → FabricConfig → List Comes → Type 0
IsCluster a c [] = Unit {0}
IsCluster a c (x ∷ xs) = IsCluster a c xs × MayArrive a c (cluster_after a c xs) x
