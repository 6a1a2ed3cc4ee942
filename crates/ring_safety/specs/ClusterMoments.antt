-- The steps of a cluster as moments: the clock's reading is the true time, and the reading of every running node.
use Rattle.std.specs.Prelude.{ℕ, Bool, true, false, List, [], ◌∷◌, Option, Some, None, map}
use Rattle.fabric_terms.specs.declared.config.FabricConfig.{FabricConfig}
use Rattle.fabric_terms.specs.declared.message.Message.{Message}
use Rattle.fabric_terms.specs.Runs.{Clocks, Entry, Run}
use Rattle.fabric_lemmas.specs.Maps.{at}
use Rattle.ring_rules.specs.declared.input.Input.{Input}
use Rattle.ring_rules.specs.declared.input.Input.TheVariants as input
use Rattle.world_rules.specs.Arbiters.{ArbiterState, arbiter_step}
use Rattle.world_rules.specs.Events.{arbiter_number, arbiter_seen, is_arbiter_actor}
use Rattle.world_rules.specs.Nodes.{NodeState, node_begun, node_step}
use Rattle.world_rules.specs.Runs.{History}
use Rattle.world_rules.specs.Uppers.{Upper, Did}
use Rattle.world_rules.specs.Worlds.{arbiter_who, numbers_of}
use Rattle.ring_safety.specs.ClusterEvents.{Cluster, Comes, Begins, Stands, Turns, Bids, Hears, Fires, cluster_after, events_of, frame_of, kept_by}

-- each of these nodes' clocks shows this reading
abbrev pub clocks_at : {a : Upper} → ℕ → List (ℕ × NodeState a) → Clocks
clocks_at reading nodes = map (λ n. (n.1.ring.me, reading)) nodes

-- every running node's clock shows the cluster's time
abbrev pub clocks_by : {a : Upper} → Cluster a → Clocks
clocks_by p = clocks_at p.time p.nodes

-- What an actor does where something comes, if one acts.

abbrev pub node_entry : {a : Upper} → Cluster a → Did (NodeState a) → Entry
node_entry p d = record { who = d.state.ring.me; reading = Some p.time; sent = numbers_of p.count d.sent; reports = d.told }

abbrev pub arbiter_entry : {a : Upper} → Cluster a → ℕ → Did (ArbiterState a) → Entry
arbiter_entry p m d = record { who = arbiter_who m; reading = None; sent = numbers_of p.count d.sent; reports = d.told }

abbrev pub node_acts_in : (a : Upper) → FabricConfig → Cluster a → Input → Option (NodeState a) → Option Entry
node_acts_in a c p i None = None
node_acts_in a c p i (Some s) = Some (node_entry p (node_step a c p.time i s))

abbrev pub arbiter_acts_in : (a : Upper) → FabricConfig → Cluster a → ℕ → Message → Option (ArbiterState a) → Option Entry
arbiter_acts_in a c p m frame None = None
arbiter_acts_in a c p m frame (Some s) = Some (arbiter_entry p m (arbiter_step a c m frame s))

abbrev pub hears_in : (a : Upper) → FabricConfig → Cluster a → Message → Bool → Option Entry
hears_in a c p m true = arbiter_acts_in a c p (arbiter_number m.to.actor) m (at (arbiter_number m.to.actor) p.arbiters)
hears_in a c p m false = node_acts_in a c p (input.Frame m) (at m.to.actor p.nodes)

abbrev pub heard_in : (a : Upper) → FabricConfig → Cluster a → Option Message → Option Entry
heard_in a c p None = None
heard_in a c p (Some m) = hears_in a c p m (is_arbiter_actor m.to.actor)

abbrev pub entry_for : (a : Upper) → FabricConfig → Cluster a → Comes → Option Entry
entry_for a c p (Begins n reading) = Some (node_entry (record p { time = reading }) (node_begun a c n (kept_by p n)))
entry_for a c p (Stands m) = arbiter_seen m []
entry_for a c p (Turns reading) = None
entry_for a c p (Bids n command) = node_acts_in a c p (input.Do command) (at n p.nodes)
entry_for a c p (Hears k) = heard_in a c p (frame_of p k)
entry_for a c p (Fires n) = node_acts_in a c p input.Fire (at n p.nodes)

-- the line of the newest event
abbrev pub last_line : History → ℕ
last_line [] = 0
last_line (e ∷ es) = e.0

-- a step is a moment of the cluster after it
abbrev pub seen_in : {a : Upper} → ℕ → Cluster a → Option Entry → Run → Run
seen_in line p None run = run
seen_in line p (Some e) run = record { line = line; time = p.time; clocks = clocks_by p; entry = Some e } ∷ run

abbrev pub moments : (a : Upper) → FabricConfig → List Comes → Run
moments a c [] = []
moments a c (x ∷ xs) = seen_in (last_line (events_of a c (x ∷ xs))) (cluster_after a c (x ∷ xs)) (entry_for a c (cluster_after a c xs) x) (moments a c xs)
