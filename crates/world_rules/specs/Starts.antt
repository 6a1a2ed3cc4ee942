-- The start of a node, with who begins with the whole ring as a parameter.
use Rattle.std.specs.Prelude.{ℕ, Bool, true, false, List}
use Rattle.fabric_terms.specs.declared.config.FabricConfig.{FabricConfig}
use Rattle.fabric_terms.specs.declared.record.Record.{Record}
use Rattle.ring_points.specs.declared.who.Who.{Who}
use Rattle.ring_points.specs.Whos.{same_who, node_instance}
use Rattle.ring_rules.specs.Rings.{Work}
use Rattle.ring_rules.specs.Starts.{node_started, start_first}
use Rattle.world_rules.specs.Nodes.{NodeState, begun_as, instance_begun, is_spent}
use Rattle.world_rules.specs.Uppers.{Upper, Did}

-- who begins with the whole ring in the first life: instance 1 of the first node
abbrev pub first_whole : FabricConfig → Who
first_whole c = node_instance c.first 1

-- where all numbers of instances are spent, the node has left
abbrev pub start_in : (whole : Who) → FabricConfig → Who → (spent : Bool) → Work
start_in whole c me true = node_started c me true
start_in whole c me false = start_first c me (same_who me whole)

-- One instance owns the whole ring; every other begins with nothing.
unfoldable pub started_in : (whole : Who) → FabricConfig → Who → (spent : Bool) → Work
started_in whole c me spent = start_in whole c me spent

unfoldable pub node_begun_in : (a : Upper) → (whole : Who) → FabricConfig → ℕ → List Record → Did (NodeState a)
node_begun_in a whole c node records =
    begun_as a c (node_instance node (instance_begun records)) records (started_in whole c (node_instance node (instance_begun records)) (is_spent records))
