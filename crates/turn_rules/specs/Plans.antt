-- What a run goes by.
use Rattle.std.specs.Prelude.{◌≡◌, ◌<◌, ◌≤◌, ℕ, Bool, true, false, not, ◌&&◌, List, [], ◌∷◌, Option, Some, None, ◌==◌, All, filter, length, map, slice_get}
use Rattle.edge_io.specs.declared.endpoint.Endpoint.{Endpoint}
use Rattle.fabric_terms.specs.Ranges.{FitsCommand}
use Rattle.fabric_terms.specs.Sound.{IsSound}
use Rattle.fabric_terms.specs.declared.command.Command.{Command}
use Rattle.fabric_terms.specs.declared.config.FabricConfig.{FabricConfig}
use Rattle.fabric_terms.specs.declared.record.Record.{Record}
use Rattle.ring_points.specs.declared.who.Who.{Who}
use Rattle.world_rules.specs.Events.{is_arbiter_actor}
use Rattle.world_rules.specs.Schedules.{is_configured_node}
use Rattle.turn_rules.specs.declared.order.Order.{Order}

-- the configuration; the instance that begins with the whole ring; the actors that run, in the order of their turns, each
-- with its endpoint; the commands; and how many turns there are
pub record Plan : Type 0 where
  pub config : FabricConfig
  pub whole : Who
  pub actors : List Endpoint
  pub orders : List Order
  pub turns : ℕ

abbrev pub is_order_at : ℕ → ℕ → Order → Bool
is_order_at turn place o = o.turn == turn && o.place == place

-- those of these commands that are of this turn of this actor
abbrev pub commands_in : ℕ → ℕ → List Order → List Command
commands_in turn place orders = map (λ o. o.command) (filter (is_order_at turn place) orders)

-- the commands of an actor's turn
abbrev pub orders_at : Plan → ℕ → ℕ → List Command
orders_at plan turn place = commands_in turn place plan.orders

abbrev pub is_of_node : Option Endpoint → Bool
is_of_node None = false
is_of_node (Some e) = not (is_arbiter_actor e.actor)

-- a node has this place
abbrev pub is_node_at : Plan → ℕ → Bool
is_node_at plan place = is_of_node (slice_get plan.actors place)

-- the actor is one of the configuration's; an arbitrator may be any
abbrev pub IsConfigured : FabricConfig → ℕ → Type 0
IsConfigured c actor = is_arbiter_actor actor ≡ false → is_configured_node c actor ≡ true

-- turns count from `least`, and no order's turn is below that of the order before it
abbrev pub Rises : ℕ → List Order → Type 0
Rises least [] = Unit {0}
Rises least (o ∷ os) = (least ≤ o.turn) × Rises o.turn os

-- a plan that can be run: a sound configuration, actors of it, one at least, and commands in their ranges, turn after turn
pub record IsPlan (plan : Plan) : Type 0 where
  pub sound : IsSound plan.config
  pub some : 0 < length plan.actors
  pub configured : (place : ℕ) (e : Endpoint) → slice_get plan.actors place ≡ Some e → IsConfigured plan.config e.actor
  pub orders : All (λ o. FitsCommand o.command) plan.orders
  pub rising : Rises 1 plan.orders

-- what a run begins with: its plan, and the records that are kept of each actor, by its place
pub record Setting : Type 0 where
  pub plan : Plan
  pub kept : List (List Record)
