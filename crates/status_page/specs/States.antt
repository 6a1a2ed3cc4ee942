-- The state of an actor, as JSON.
use Rattle.std.specs.Prelude.{ℕ, List, ◌++◌, Option, Some, None, codes, decimal}
use Rattle.std.specs.List.{join_by}
use Rattle.hex.specs.Hex.{encode_lower}
use Rattle.ring_points.specs.declared.interval.Interval.{Interval}
use Rattle.join_phases.specs.declared.phases.Phase.{Phase}
use Rattle.text_fields.specs.Epochs.{epoch_text}
use Rattle.text_fields.specs.Instances.{who_text}
use Rattle.text_fields.specs.Intervals.{interval_text}
use Rattle.door_lines.specs.Words.{link_text, phase_text, role_text}
use Rattle.status_page.specs.declared.state.ChangeFact.{ChangeFact}
use Rattle.status_page.specs.declared.state.DoorFacts.{DoorFacts}
use Rattle.status_page.specs.declared.state.LinkFact.{LinkFact}
use Rattle.status_page.specs.declared.state.NodeFacts.{NodeFacts}
use Rattle.status_page.specs.declared.state.ReplicaFact.{ReplicaFact}

-- A list: entries with commas between, in brackets. No text of a state has a sign that JSON spells otherwise.
abbrev pub array_text : {A : Type 0} → (A → List ℕ) → List A → List ℕ
array_text text xs = codes "[" ++ (join_by text (codes ",") xs ++ codes "]")

-- what is not there is null
abbrev pub or_null : Option ℕ → List ℕ
or_null None = codes "null"
or_null (Some n) = decimal n

unfoldable pub interval_entry : Interval → List ℕ
interval_entry i = codes "\"" ++ (interval_text i ++ codes "\"")

unfoldable pub link_entry : LinkFact → List ℕ
link_entry l =
    codes "{\"peer\":\""
    ++ (who_text l.peer
    ++ (codes "\",\"state\":\"" ++ (link_text l.state ++ (codes "\",\"length\":" ++ (decimal l.length ++ codes "}")))))

-- of a replica: its partition, its epoch, its role, and its last entry
unfoldable pub replica_entry : ReplicaFact → List ℕ
replica_entry r =
    codes "{\"partition\":"
    ++ (decimal r.partition
    ++ (codes ",\"epoch\":\""
    ++ (epoch_text r.epoch
    ++ (codes "\",\"role\":\"" ++ (role_text r.role ++ (codes "\",\"last\":" ++ (decimal r.last ++ codes "}")))))))

-- of a reconfiguration that is under way: its partition, its epoch, and for how many ticks it is
unfoldable pub change_entry : ChangeFact → List ℕ
change_entry x =
    codes "{\"partition\":"
    ++ (decimal x.partition
    ++ (codes ",\"epoch\":\"" ++ (epoch_text x.epoch ++ (codes "\",\"ticks\":" ++ (decimal x.ticks ++ codes "}")))))

-- who the node is, how far it has come, the reading of its clock, and its fence
unfoldable pub node_fields : Phase → NodeFacts → List ℕ
node_fields phase node =
    codes "{\"node\":\""
    ++ (who_text node.who
    ++ (codes "\",\"phase\":\""
    ++ (phase_text phase ++ (codes "\",\"reading\":" ++ (decimal node.reading ++ (codes ",\"fence\":" ++ or_null node.fence))))))

-- the points that it owns, the nodes that are up, and its links
unfoldable pub ring_fields : NodeFacts → List ℕ
ring_fields node =
    codes ",\"owns\":"
    ++ (array_text interval_entry node.owns.items
    ++ (codes ",\"up\":"
    ++ (array_text decimal node.up.items ++ (codes ",\"links\":" ++ array_text link_entry node.links.items))))

unfoldable pub partition_fields : NodeFacts → List ℕ
partition_fields node =
    codes ",\"replicas\":"
    ++ (array_text replica_entry node.replicas.items
    ++ (codes ",\"changing\":" ++ array_text change_entry node.changing.items))

-- open answers, clients that watch, and the checksum of the configuration
unfoldable pub door_fields : DoorFacts → List ℕ
door_fields door =
    codes ",\"open\":"
    ++ (decimal door.open
    ++ (codes ",\"watchers\":"
    ++ (decimal door.watchers ++ (codes ",\"checksum\":\"" ++ (encode_lower door.checksum ++ codes "\"}")))))

-- the state of a node
unfoldable pub node_text : Phase → NodeFacts → DoorFacts → List ℕ
node_text phase node door = node_fields phase node ++ (ring_fields node ++ (partition_fields node ++ door_fields door))

-- the state of an arbitrator, and how many entries it has
unfoldable pub arbiter_text : ℕ → ℕ → DoorFacts → List ℕ
arbiter_text arbiter entries door =
    codes "{\"arbiter\":" ++ (decimal arbiter ++ (codes ",\"entries\":" ++ (decimal entries ++ door_fields door)))
