-- The nodes as placement sees them: which are up, and how loaded they are.
use Rattle.std.specs.Prelude.{ℕ, List, map}
use Rattle.fabric_terms.specs.declared.config.FabricConfig.{FabricConfig}
use Rattle.failover_units.specs.Units.{Table, load_of}
use Rattle.replica_place.specs.declared.load.NodeLoad.{NodeLoad}
use Rattle.ring_rules.specs.Rings.{Settings, Ring, settings_of}
use Rattle.ring_rules.specs.Up.{is_up, long_ago}

-- what the rows read of a configuration, at one node: what the ring reads, and each node's fault domain
pub record Site : Type 0 where
  pub ring : Settings
  pub domains : List (ℕ × ℕ)

abbrev pub site_of : FabricConfig → ℕ → Site
site_of c node = record { ring = settings_of c node; domains = map (λ n. (n.node, n.domain)) c.nodes }

-- a node with its domain: whether it is up since a reading, and in how many of the known units it is a member
abbrev pub load_at : ℕ → Ring → Table → ℕ × ℕ → NodeLoad
load_at since r units n = record { node = n.0; domain = n.1; up = is_up since r n.0; load = load_of n.0 units }

-- all configured nodes at this reading; up is who was heard within two leases
abbrev pub loads : Site → ℕ → Ring → Table → List NodeLoad
loads c now r units = map (load_at (long_ago now c.ring.lease) r units) c.domains
