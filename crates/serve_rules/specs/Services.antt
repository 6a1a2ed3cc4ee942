-- What a served process is given.
use Rattle.std.specs.Prelude.{◌≡◌, ℕ, ◌==◌, List, [], ◌∷◌, Option, Some, None, length, slice_get, if◌then◌else◌}
use Rattle.edge_io.specs.declared.endpoint.Endpoint.{Endpoint}
use Rattle.fabric_terms.specs.declared.record.Record.{Record}
use Rattle.door_lines.specs.declared.asked.Speaker.{Speaker}
use Rattle.door_lines.specs.declared.asked.Speaker.TheVariants.{ArbiterClient, ChildClient, NodeClient, Parent}
use Rattle.client_sessions.specs.Sessions.{Kept}
use Rattle.turn_rules.specs.Plans.{IsPlan, Plan, Setting}
use Rattle.world_rules.specs.Events.{is_arbiter_actor}

-- A plan that has one actor and no orders: what it is told comes by the door and by the policy.
pub record IsService (plan : Plan) : Type 0 where
  pub good : IsPlan plan
  pub alone : length plan.actors ≡ 1
  pub free : plan.orders ≡ []

abbrev pub actor_in : Option Endpoint → ℕ
actor_in None = 0
actor_in (Some e) = e.actor

-- the number of its actor
abbrev pub actor_of : Plan → ℕ
actor_of plan = actor_in (slice_get plan.actors 0)

-- Who says a line, which decides what it may ask.

-- a client of a node, by the client that is its parent, if it has one
abbrev pub node_speaker : Option ℕ → ℕ → Speaker
node_speaker None client = NodeClient
node_speaker (Some parent) client = if parent == client then Parent else ChildClient

abbrev pub speaker_of : Plan → Kept → ℕ → Speaker
speaker_of plan v client = if is_arbiter_actor (actor_of plan) then ArbiterClient else node_speaker v.parent client

-- a life of the process, from what is kept of its actor
abbrev pub life_of : Plan → List Record → Setting
life_of plan kept = record { plan = plan; kept = kept ∷ [] }
