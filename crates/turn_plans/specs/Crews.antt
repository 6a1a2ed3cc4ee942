-- Who runs.
use Rattle.std.specs.Prelude.{ℕ, zero, suc, Bool, true, ◌==◌, List, [], ◌∷◌, ◌++◌, Option, Some, None, find, option_map}
use Rattle.std.specs.List.{list_any}
use Rattle.edge_io.specs.declared.endpoint.Endpoint.{Endpoint}
use Rattle.fabric_terms.specs.declared.config.FabricConfig.{FabricConfig}
use Rattle.ring_points.specs.Limits.{most_arbiters, most_node_number}
use Rattle.ring_points.specs.Whos.{arbiter_actor}
use Rattle.world_rules.specs.Schedules.{is_configured_node}
use Rattle.turn_plans.specs.declared.crew.Crew.{Crew}
use Rattle.turn_plans.specs.declared.crew.Crew.TheVariants.{Node, Arbiter, Cluster}

-- an actor that listens at this address, if there is one
abbrev pub listener : ℕ → Option (List ℕ) → List Endpoint
listener actor None = []
listener actor (Some at) = record { actor = actor; at = at } ∷ []

-- the node of this number, and where it listens, if it is configured
abbrev pub node_at : FabricConfig → ℕ → List Endpoint
node_at c number = listener number (option_map (λ e. e.at) (find (λ e. e.node == number) c.nodes))

-- the arbitrator of this number
abbrev pub arbiter_at : FabricConfig → ℕ → List Endpoint
arbiter_at c number = listener (arbiter_actor number) (option_map (λ a. a.1) (find (λ a. a.0 == number) c.arbiters))

-- the nodes of the numbers 1 to n, rising
unfoldable pub nodes_to : FabricConfig → ℕ → List Endpoint
nodes_to c zero = []
nodes_to c (suc n) = nodes_to c n ++ node_at c (suc n)

-- the arbitrators of the numbers 1 to n, rising
unfoldable pub arbiters_to : FabricConfig → ℕ → List Endpoint
arbiters_to c zero = []
arbiters_to c (suc n) = arbiters_to c n ++ arbiter_at c (suc n)

-- the actors of a crew, in the order of their turns
abbrev pub endpoints_of : FabricConfig → Crew → List Endpoint
endpoints_of c (Node node) = node_at c node
endpoints_of c (Arbiter arbiter) = arbiter_at c arbiter
endpoints_of c Cluster = nodes_to c most_node_number ++ arbiters_to c most_arbiters

abbrev pub is_configured_arbitrator : FabricConfig → ℕ → Bool
is_configured_arbitrator c number = list_any (λ a. a.0 == number) c.arbiters

-- the configuration has whom the words name
abbrev pub is_crew : FabricConfig → Crew → Bool
is_crew c (Node node) = is_configured_node c node
is_crew c (Arbiter arbiter) = is_configured_arbitrator c arbiter
is_crew c Cluster = true
