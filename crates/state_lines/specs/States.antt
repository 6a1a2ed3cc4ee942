-- What the state of an actor is, line by line.
use Rattle.std.specs.Prelude.{ℕ, ◌+◌, List, [], ◌∷◌, ◌++◌, Option, Some, None, flat_map, map}
use Rattle.arbiter_core.specs.Arbiters.{Arbiter as ArbiterCore}
use Rattle.arbiter_tables.specs.Registers.{registered}
use Rattle.arbiter_tables.specs.Tables.{entries_of}
use Rattle.replica_core.specs.Replicas.{Replica as OwnReplica}
use Rattle.ring_node.specs.Up.{up_nodes}
use Rattle.ring_rules.specs.declared.link.Link.{Link as RingLink}
use Rattle.ring_rules.specs.Rings.{Ring, Settings, Slots}
use Rattle.ring_rules.specs.Slots.{fence_of}
use Rattle.unit_rules.specs.Fabric.{fabric}
use Rattle.unit_rules.specs.Reconfigs.{Reconfig, task_of}
use Rattle.unit_rules.specs.ReplicaStates.{ReplicaState, last_of}
use Rattle.unit_replica.specs.Tables.{replica_at}
use Rattle.world_rules.specs.Arbiters.{ArbiterState}
use Rattle.world_rules.specs.Nodes.{NodeState}
use Rattle.door_lines.specs.Words.{Words, Node, Arbiter, Owns, Link, Up, Replica, Changing, Open, Watchers}
use Rattle.state_lines.specs.Changes.{ticks_of}
use Rattle.state_lines.specs.declared.change_times.SeenChange.{SeenChange}
use Rattle.state_lines.specs.declared.session_facts.SessionFacts.{SessionFacts}

-- The ring at a node

-- the node and what it owns
abbrev pub node_lines : Settings → ℕ → Ring → List Words
node_lines settings now r = Node r.me r.phase now (fence_of settings.answer r.slots) ∷ Owns r.token.ranges ∷ []

-- a link; a free slot has no line
abbrev pub link_line : Option RingLink → List Words
link_line None = []
link_line (Some l) = Link l.peer l.state l.len ∷ []

abbrev pub link_lines : Slots → List Words
link_lines slots = flat_map link_line slots

-- the nodes that are up
abbrev pub up_line : Settings → ℕ → Ring → Words
up_line settings now r = Up (up_nodes now (record { settings = settings; ring = r }))

-- What runs above it

-- a replica: the epoch that it promised, its role, and its last entry
abbrev pub replica_line : ℕ → Option OwnReplica → List Words
replica_line partition None = []
replica_line partition (Some r) = Replica partition r.promised r.role (last_of r) ∷ []

-- the replica of each partition that has one, by rising partition
abbrev pub replica_lines : List (ℕ × ReplicaState) → List Words
replica_lines states = flat_map (λ partition. replica_line partition (replica_at partition states)) (map (λ e. e.0) states)

-- a reconfiguration that is under way: the epoch to come, and for how many ticks it has been seen
abbrev pub changing_line : ℕ → List SeenChange → ℕ × Reconfig → Words
changing_line now seen e =
    let epoch = (task_of e.1).epoch in
    Changing e.0 epoch (ticks_of now e.0 epoch seen)

-- by rising partition
abbrev pub changing_lines : ℕ → List SeenChange → List (ℕ × Reconfig) → List Words
changing_lines now seen reconfigs = map (changing_line now seen) reconfigs

-- The door

abbrev pub session_lines : SessionFacts → List Words
session_lines facts = Open facts.open ∷ Watchers facts.watchers ∷ []

-- All of it

-- the state of a node at a reading
unfoldable pub state_of : Settings → NodeState fabric → ℕ → List SeenChange → SessionFacts → List Words
state_of settings s now seen facts =
    node_lines settings now s.ring ++ link_lines s.ring.slots ++ up_line settings now s.ring ∷
    replica_lines s.above.states ++ changing_lines now seen s.above.managed.reconfigs ++ session_lines facts

-- the state of the arbitrator of this number: how many entries it has
unfoldable pub arbiter_state_of : ℕ → ArbiterState fabric → SessionFacts → List Words
arbiter_state_of number s facts = Arbiter number (entries_of s.table + registered s.beside) ∷ session_lines facts

-- an arbitrator as the rules know it
abbrev pub ruled_by : ArbiterCore → ArbiterState fabric
ruled_by a = record { table = a.table; beside = a.registers }
