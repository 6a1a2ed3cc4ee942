-- The plan of one actor.
use Rattle.std.specs.Prelude.{◌≡◌, ℕ, ◌==◌, List, [], ◌∷◌, Option, Some, None, Result, Ok, Err, find, option_map, if◌then◌else◌}
use Rattle.world_rules.specs.Starts.{first_whole}
use Rattle.fabric_status.specs.declared.status.Status.TheVariants.{NoSuch}
use Rattle.fabric_terms.specs.declared.config.FabricConfig.{FabricConfig}
use Rattle.ring_points.specs.Whos.{node_instance}
use Rattle.ring_points.specs.declared.who.Who.{Who}
use Rattle.service_file.specs.declared.settings.Again.{Again}
use Rattle.turn_rules.specs.Plans.{Plan}
use Rattle.world_rules.specs.Events.{arbiter_number, is_arbiter_actor}
use Rattle.serve_top.specs.Addresses.{short}
use Rattle.serve_top.specs.declared.end.End.{End}
use Rattle.serve_top.specs.declared.end.End.TheVariants as end

-- who begins with the whole ring: the instance that line 2 names, or else that of the first life
abbrev pub whole_of : FabricConfig → Option Again → Who
whole_of c None = first_whole c
whole_of c (Some a) = node_instance a.node a.instance

-- where the actor of a number is reached, if it is configured
abbrev pub address_of : FabricConfig → ℕ → Option (List ℕ)
address_of c actor =
    if is_arbiter_actor actor then option_map (λ a. a.1) (find (λ a. a.0 == arbiter_number actor) c.arbiters)
    else option_map (λ e. e.at) (find (λ e. e.node == actor) c.nodes)

-- the actor alone, without commands
abbrev pub plan_for : FabricConfig → (whole : Who) → ℕ → List ℕ → Plan
plan_for c whole actor at = record { config = c; whole = whole; actors = record { actor = actor; at = at } ∷ []; orders = []; turns = 0 }

-- the plan of the actor; or it is none of line 1; or memory was short
abbrev pub PlansFor : FabricConfig → (whole : Who) → ℕ → Result Plan End → Type 0
PlansFor c whole actor (Ok p) = (at : List ℕ) × (address_of c actor ≡ Some at) × (p ≡ plan_for c whole actor at)
PlansFor c whole actor (Err (end.As (NoSuch line))) = (line ≡ 1) × (address_of c actor ≡ None)
PlansFor c whole actor (Err e) = e ≡ short
