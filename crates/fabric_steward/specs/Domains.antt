-- In how many fault domains a node is up.
use Rattle.std.specs.Prelude.{ℕ, ◌+◌, ◌==◌, Bool, not, ◌&&◌, List, [], ◌∷◌, count_by, if◌then◌else◌}
use Rattle.std.specs.List.{list_any}
use Rattle.fabric_steward.specs.declared.node_watch.NodeWatch.{NodeWatch}
use Rattle.fabric_steward.specs.Facts.{Facts}

-- one of the nodes is of this domain and up
abbrev pub is_domain_up : Facts → (now domain : ℕ) → List NodeWatch → Bool
is_domain_up f now domain ns = list_any (λ n. n.domain == domain && f.is_up n.node now) ns

-- a node that is up counts for its domain, unless a later one does
abbrev pub counts : Facts → (now : ℕ) → NodeWatch → List NodeWatch → Bool
counts f now n ns = f.is_up n.node now && not (is_domain_up f now n.domain ns)

abbrev pub domains_up : Facts → (now : ℕ) → List NodeWatch → ℕ
domains_up f now [] = 0
domains_up f now (n ∷ ns) = if counts f now n ns then domains_up f now ns + 1 else domains_up f now ns

-- how many of these nodes are up
abbrev pub nodes_up : Facts → (now : ℕ) → List ℕ → ℕ
nodes_up f now nodes = count_by (λ n. f.is_up n now) nodes
