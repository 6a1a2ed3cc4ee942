-- What every configuration that was read meets, and every crate takes for granted.
use Rattle.std.specs.Prelude.{◌≡◌, ◌≢◌, ℕ, ◌+◌, ◌^◌, ◌<◌, ◌≤◌, List, length, Some, All, Any, AllPairs, slice_get}
use Rattle.ring_points.specs.Limits.{least_lease, most_arbiters, most_domains, most_drift, most_grain, most_lease}
use Rattle.ring_points.specs.Limits.{most_node_number, most_nodes, most_rounds}
use Rattle.fabric_terms.specs.declared.config.NodeEntry.{NodeEntry}
use Rattle.fabric_terms.specs.declared.config.FabricConfig.{FabricConfig}

-- n is one of low to high
pub record Within (low high n : ℕ) : Type 0 where
  pub from_low : low ≤ n
  pub to_high : n ≤ high

pub record IsSoundNode (n : NodeEntry) : Type 0 where
  pub node : Within 1 most_node_number n.node
  pub point : n.point.0 < 2 ^ 64
  pub domain : Within 1 most_domains n.domain
  pub longest : Within least_lease most_lease n.longest

-- two nodes have neither their number nor their point in common
pub record AreApart (a b : NodeEntry) : Type 0 where
  pub numbers : a.node ≢ b.node
  pub points : a.point.0 ≢ b.point.0

pub record IsSound (c : FabricConfig) : Type 0 where
  pub lease : Within least_lease most_lease c.lease
  pub answer : Within 1 most_lease c.answer
  pub drift : Within 0 most_drift c.bound.d
  pub grain : Within 0 most_grain c.bound.grain
  pub near : Within 0 4 c.near
  pub rounds : Within 1 most_rounds c.rounds
  pub nodes_count : Within 1 most_nodes (length c.nodes)
  pub nodes : All IsSoundNode c.nodes
  pub nodes_apart : AllPairs AreApart c.nodes
  pub arbiters_count : Within 1 most_arbiters (length c.arbiters)
  -- the number of an arbitrator is its place in the list, from 1
  pub arbiters_in_order : (k : ℕ) (a : ℕ × List ℕ) → slice_get c.arbiters k ≡ Some a → a.0 ≡ k + 1
  pub first_listed : Any (λ n. n.node ≡ c.first) c.nodes
