-- The nodes that are up, as one node knows it.
use Rattle.std.specs.Prelude.{ℕ, List, filter, map}
use Rattle.ring_node.specs.Nodes.{Node}
use Rattle.ring_rules.specs.Rising.{rising}
use Rattle.ring_rules.specs.Up.{is_up, long_ago}

-- of the configured nodes, by rising number
abbrev pub up_nodes : ℕ → Node → List ℕ
up_nodes now n = rising (filter (is_up (long_ago now n.settings.lease) n.ring) (map (λ p. p.0) n.ring.routes.points))
