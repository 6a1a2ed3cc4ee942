-- What the settings of every line that was read meet.
use Rattle.std.specs.Prelude.{◌≡◌, ◌≢◌, ℕ, ◌-◌, ◌≤◌, length, map, All, Any, IfSome}
use Rattle.std.specs.List.{AllPairs}
use Rattle.ring_points.specs.Limits.{most_counter, most_lease, most_members, most_nodes, most_partitions}
use Rattle.fabric_terms.specs.Sound.{Within}
use Rattle.fabric_terms.specs.declared.config.FabricConfig.{FabricConfig}
use Rattle.service_file.specs.declared.settings.Again.{Again}
use Rattle.service_file.specs.declared.settings.Declared.{Declared}
use Rattle.service_file.specs.declared.settings.ServiceSettings.{ServiceSettings}
use Rattle.service_file.specs.Entries.{most_declared}

-- a node of the configuration has this number
abbrev pub IsConfigured : FabricConfig → ℕ → Type 0
IsConfigured c n = Any (λ node. node.node ≡ n) c.nodes

pub record IsSoundDeclared (d : Declared) : Type 0 where
  pub partition : Within 0 (most_partitions - 1) d.partition
  pub replicas : Within 1 most_members d.replicas

pub record IsSoundAgain (c : FabricConfig) (a : Again) : Type 0 where
  pub node : IsConfigured c a.node
  pub instance : Within 2 most_counter a.instance

pub record IsSoundService (c : FabricConfig) (s : ServiceSettings) : Type 0 where
  pub join_count : length s.join ≤ most_nodes
  pub joined : All (IsConfigured c) s.join
  pub join_once : AllPairs (λ m n. m ≢ n) s.join
  pub partitions_count : length s.partitions ≤ most_declared
  pub partitions : All IsSoundDeclared s.partitions
  pub partitions_once : AllPairs (λ p q. p ≢ q) (map (λ d. d.partition) s.partitions)
  pub heal_after : Within 1 most_lease s.heal_after
  pub again : IfSome s.again (IsSoundAgain c)
