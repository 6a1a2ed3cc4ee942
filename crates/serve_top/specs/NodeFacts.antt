-- What the page says of a node, and which numbers.
use Rattle.std.specs.Prelude.{◌≡◌, ℕ, List, [], ◌∷◌, Option, Some, None, flat_map, map}
use Rattle.replica_core.specs.Replicas.{Replica}
use Rattle.ring_node.specs.Up.{up_nodes}
use Rattle.ring_rules.specs.Rings.{Settings}
use Rattle.ring_rules.specs.Slots.{fence_of}
use Rattle.ring_rules.specs.declared.link.Link.{Link}
use Rattle.state_lines.specs.Changes.{ticks_of}
use Rattle.state_lines.specs.declared.change_times.SeenChange.{SeenChange}
use Rattle.status_page.specs.declared.state.ChangeFact.{ChangeFact}
use Rattle.status_page.specs.declared.state.LinkFact.{LinkFact}
use Rattle.status_page.specs.declared.state.NodeFacts.{NodeFacts}
use Rattle.status_page.specs.declared.state.ReplicaFact.{ReplicaFact}
use Rattle.unit_replica.specs.Tables.{replica_at}
use Rattle.unit_rules.specs.Fabric.{fabric}
use Rattle.unit_rules.specs.Reconfigs.{Reconfig, task_of}
use Rattle.unit_rules.specs.ReplicaStates.{ReplicaState, last_of}
use Rattle.world_rules.specs.Nodes.{NodeState}

-- a link; a free slot has no fact
abbrev pub link_fact : Option Link → List LinkFact
link_fact None = []
link_fact (Some l) = record { peer = l.peer; state = l.state; length = l.len } ∷ []

abbrev pub link_facts : List (Option Link) → List LinkFact
link_facts slots = flat_map link_fact slots

-- a replica: the epoch that it promised, its role, and its last entry
abbrev pub replica_fact : ℕ → Option Replica → List ReplicaFact
replica_fact partition None = []
replica_fact partition (Some r) = record { partition = partition; epoch = r.promised; role = r.role; last = last_of r } ∷ []

abbrev pub replica_facts : List (ℕ × ReplicaState) → List ReplicaFact
replica_facts states = flat_map (λ partition. replica_fact partition (replica_at partition states)) (map (λ e. e.0) states)

-- a reconfiguration that is under way: the epoch to come, and for how many ticks it has been seen
abbrev pub change_fact : ℕ → List SeenChange → ℕ × Reconfig → ChangeFact
change_fact now seen e =
    let epoch = (task_of e.1).epoch in
    record { partition = e.0; epoch = epoch; ticks = ticks_of now e.0 epoch seen }

abbrev pub change_facts : ℕ → List SeenChange → List (ℕ × Reconfig) → List ChangeFact
change_facts now seen reconfigs = map (change_fact now seen) reconfigs

-- these are the facts of a node at a reading, where these reconfigurations have been seen
pub record AreFacts (settings : Settings) (s : NodeState fabric) (now : ℕ) (seen : List SeenChange) (facts : NodeFacts) : Type 0 where
  pub who : facts.who ≡ s.ring.me
  pub reading : facts.reading ≡ now
  pub fence : facts.fence ≡ fence_of settings.answer s.ring.slots
  pub owns : facts.owns.items ≡ s.ring.token.ranges
  pub up : facts.up.items ≡ up_nodes now (record { settings = settings; ring = s.ring })
  pub links : facts.links.items ≡ link_facts s.ring.slots
  pub replicas : facts.replicas.items ≡ replica_facts s.above.states
  pub changing : facts.changing.items ≡ change_facts now seen s.above.managed.reconfigs
