-- Which runs are a cluster's: the plan, what is kept, and what is heard.
use Rattle.std.specs.Prelude.{◌≡◌, ◌≤◌, ◌+◌, ℕ, Bool, true, false, List, [], ◌∷◌, Option, Some, None, Contains, length, slice_get}
use Rattle.world_rules.specs.Starts.{first_whole}
use Rattle.edge_io.specs.declared.endpoint.Endpoint.{Endpoint}
use Rattle.fabric_terms.specs.declared.config.FabricConfig.{FabricConfig}
use Rattle.fabric_terms.specs.declared.message.Message.{Message}
use Rattle.fabric_terms.specs.declared.record.Record.{Record}
use Rattle.edge_io.specs.Told.{Told}
use Rattle.frame_format.specs.Kinds.{message_of}
use Rattle.turn_rules.specs.Happenings.{Comes, Datagram, Hears, History}
use Rattle.turn_rules.specs.Plans.{Plan, Setting}
use Rattle.turn_rules.specs.Process.{after}
use Rattle.turn_rules.specs.declared.order.Order.{Order}
use Rattle.world_rules.specs.Events.{is_arbiter_actor}
use Rattle.world_rules.specs.Schedules.{command_names, is_configured_arbiter, is_configured_node}
use Rattle.cluster_safety.specs.Moments.{frames_of}

-- the numbers of the actors rise, from this one on; so nodes come before arbitrators
abbrev pub Rise : ℕ → List Endpoint → Type 0
Rise low [] = Unit {0}
Rise low (e ∷ es) = (low ≤ e.actor) × Rise (e.actor + 1) es

abbrev pub is_configured_as : FabricConfig → ℕ → Bool → Bool
is_configured_as c actor true = is_configured_arbiter c actor
is_configured_as c actor false = is_configured_node c actor

-- the actor is a configured node, or a configured arbitrator
abbrev pub is_configured : FabricConfig → ℕ → Bool
is_configured c actor = is_configured_as c actor (is_arbiter_actor actor)

-- The actors are configured ones, nodes rising and then arbitrators, and each command names what its actor may be told of.
-- They need not be all that are configured. It is the first life of the cluster.
pub record IsClusterPlan (plan : Plan) : Type 0 where
  pub whole : plan.whole ≡ first_whole plan.config
  pub rise : Rise 0 plan.actors
  pub configured : (place : ℕ) (e : Endpoint) → slice_get plan.actors place ≡ Some e → is_configured plan.config e.actor ≡ true
  pub named : (k : ℕ) (o : Order) (e : Endpoint) → slice_get plan.orders k ≡ Some o → slice_get plan.actors o.place ≡ Some e → command_names plan.config e.actor o.command ≡ true

-- no record of any of its actors is kept
pub record KeepsNothing (s : Setting) : Type 0 where
  pub each : (place : ℕ) (records : List Record) → slice_get s.kept place ≡ Some records → records ≡ []
  pub whole : length s.kept ≡ length s.plan.actors

-- the keeper tells that it holds no record of any of these actors
abbrev pub HoldsNothing : List Endpoint → Told → Type 0
HoldsNothing actors a = (place : ℕ) (e : Endpoint) → slice_get actors place ≡ Some e → a.kept e.actor ≡ Some []

-- bytes are no frame, or equal one of these
abbrev pub IsOneOf : List Message → Option Message → Type 0
IsOneOf frames None = Unit {0}
IsOneOf frames (Some m) = Contains frames m

abbrev pub IsOwn : List Message → Comes → Type 0
IsOwn frames (Hears (Datagram bytes)) = IsOneOf frames (message_of bytes)
IsOwn frames _ = Unit {0}

-- each datagram that is taken is no frame, or equals a frame of an earlier step
abbrev pub OwnFrames : Setting → History → Type 0
OwnFrames s [] = Unit {0}
OwnFrames s (h ∷ hs) = OwnFrames s hs × IsOwn (frames_of (after s hs).steps) h.comes
