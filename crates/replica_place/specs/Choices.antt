-- Choices of nodes, and what they cost.
use Rattle.std.specs.Prelude.{◌≡◌, ◌≢◌, ℕ, ◌≤◌, false, List, length, sum_by, All, AllPairs, Contains, IsTrue}
use Rattle.ring_points.specs.Limits.{most_domains}
use Rattle.replica_place.specs.declared.load.NodeLoad.{NodeLoad}
use Rattle.replica_place.specs.Placement.{comes_before, domains_up, chosen}

-- so many up nodes, no two of one domain (so no node twice)
pub record IsChoice (nodes : List NodeLoad) (count : ℕ) (choice : List NodeLoad) : Type 0 where
  pub many : length choice ≡ count
  pub given : All (Contains nodes) choice
  pub up : All (λ n. IsTrue n.up) choice
  pub apart : AllPairs (λ a b. a.domain ≢ b.domain) choice

abbrev pub cost : List NodeLoad → ℕ
cost choice = sum_by (λ n. n.load) choice

-- the domains are numbered from 1 to 64
abbrev pub HasDomain : NodeLoad → Type 0
HasDomain n = (1 ≤ n.domain) × (n.domain ≤ most_domains)

-- what is chosen is a choice, where enough domains have an up node
abbrev pub PlacementIsAChoice : Type 0
PlacementIsAChoice =
    (nodes : List NodeLoad) (count : ℕ)
    → count ≤ domains_up nodes → IsChoice nodes count (chosen nodes count)

-- no chosen node comes before an earlier one
abbrev pub PlacementIsInOrder : Type 0
PlacementIsInOrder =
    (nodes : List NodeLoad) (count : ℕ)
    → AllPairs (λ a b. comes_before b a ≡ false) (chosen nodes count)

-- and no other choice costs less
abbrev pub NoChoiceCostsLess : Type 0
NoChoiceCostsLess =
    (nodes : List NodeLoad) (count : ℕ) (choice : List NodeLoad)
    → All HasDomain nodes → IsChoice nodes count choice → cost (chosen nodes count) ≤ cost choice
