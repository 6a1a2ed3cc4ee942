-- What runs above the ring at a node as an instance begins.
use Rattle.std.specs.Prelude.{ℕ, List, []}
use Rattle.fabric_terms.specs.declared.config.FabricConfig.{FabricConfig}
use Rattle.unit_rules.specs.ReplicaStates.{ReplicaState}
use Rattle.node_core.specs.UnitParts.{Part, domains_of}

-- with these replicas
abbrev pub part_begun : FabricConfig → List (ℕ × ReplicaState) → Part
part_begun c states = record { domains = domains_of c; state = record { managed = record { units = []; reconfigs = [] }; states = states } }
