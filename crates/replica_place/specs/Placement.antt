-- Where replicas are placed.
use Rattle.std.specs.Prelude.{ℕ, ◌&&◌, ◌||◌, ◌==◌, Bool, List, [], ◌∷◌, map, count_by, filter, filter_map, take, Option, Some, None, Result, Ok, Err, nat_lt, if◌then◌else◌}
use Rattle.std.specs.List.{best_of, list_any, range_with_len}
use Rattle.ring_points.specs.Limits.{most_domains}
use Rattle.replica_place.specs.declared.load.NodeLoad.{NodeLoad}
use Rattle.replica_place.specs.declared.placement.TooFewDomains.{TooFewDomains}

-- a comes before b: by its load, and at one load by its number
abbrev pub comes_before : NodeLoad → NodeLoad → Bool
comes_before a b = nat_lt a.load b.load || (a.load == b.load && nat_lt a.node b.node)

-- the one that comes before the others
abbrev pub first_of : List NodeLoad → Option NodeLoad
first_of [] = None
first_of (n ∷ ns) = Some (best_of comes_before n ns)

-- the up node of least load in a domain, ties to the lower number
abbrev pub least_in : List NodeLoad → ℕ → Option NodeLoad
least_in nodes domain = first_of (filter (λ n. n.up && n.domain == domain) nodes)

-- the least node of each of the domains 1 to 64 that has an up node
unfoldable pub least_nodes : List NodeLoad → List NodeLoad
least_nodes nodes = filter_map (least_in nodes) (range_with_len 1 most_domains)

-- a node is up in this domain
abbrev pub has_up : List NodeLoad → ℕ → Bool
has_up nodes domain = list_any (λ n. n.up && n.domain == domain) nodes

-- how many of the domains 1 to 64 have an up node
unfoldable pub domains_up : List NodeLoad → ℕ
domains_up nodes = count_by (has_up nodes) (range_with_len 1 most_domains)

-- n at its place among the nodes in order
abbrev pub inserted : NodeLoad → List NodeLoad → List NodeLoad
inserted n [] = n ∷ []
inserted n (m ∷ ms) = if comes_before n m then n ∷ m ∷ ms else m ∷ inserted n ms

-- the nodes in rising order of load, then number
abbrev pub in_order : List NodeLoad → List NodeLoad
in_order [] = []
in_order (n ∷ ns) = inserted n (in_order ns)

-- of the least nodes of the domains, the count least
abbrev pub chosen : List NodeLoad → ℕ → List NodeLoad
chosen nodes count = take count (in_order (least_nodes nodes))

abbrev pub too_few : ℕ → TooFewDomains
too_few domains = record { 0 = domains }

-- the numbers of the chosen nodes, where that many domains have an up node
abbrev pub placement : List NodeLoad → ℕ → Result (List ℕ) TooFewDomains
placement nodes count =
    if nat_lt (domains_up nodes) count then Err (too_few (domains_up nodes))
    else Ok (map (λ n. n.node) (chosen nodes count))
