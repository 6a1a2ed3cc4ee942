-- The plan of one actor is that of a service.
use Rattle.std.proofs.Common.{◌≡◌, ℕ, Bool, true, false, cond, List, [], ◌∷◌, Option, Some, None, arith, refl, ap, sym, subst, ◌∙◌}
use Rattle.std.specs.Prelude.{◌==◌, ◌||◌, All, find, option_map, slice_get, if◌then◌else◌}
use Rattle.std.specs.List.{list_any}
use Rattle.std.proofs.lemmas.List.Elements.{All-cons, All-get_or, All-nil}
use Rattle.std.proofs.lemmas.Option.{get_or_from_slice_get, slice_get_within}
use Rattle.edge_io.specs.declared.endpoint.Endpoint.{Endpoint}
use Rattle.fabric_terms.specs.Ranges.{FitsCommand}
use Rattle.fabric_terms.specs.Sound.{IsSound}
use Rattle.fabric_terms.specs.declared.config.FabricConfig.{FabricConfig}
use Rattle.fabric_terms.specs.declared.config.NodeEntry.{NodeEntry}
use Rattle.ring_points.specs.declared.who.Who.{Who}
use Rattle.serve_rules.specs.Services.{IsService}
use Rattle.turn_rules.specs.Plans.{IsConfigured, Plan}
use Rattle.turn_rules.specs.declared.order.Order.{Order}
use Rattle.world_rules.specs.Events.{arbiter_number}
use Rattle.world_rules.specs.Schedules.{is_configured_node}
use Rattle.serve_top.specs.Plans.{address_of, plan_for}

-- who is found is listed
listed : {X : Type 0} (p : X → Bool) (xs : List X) (y : X) → find p xs ≡ Some y → list_any p xs ≡ true
listed p [] y e = cc
listed p (x ∷ xs) y e = by_test (p x) (listed p xs y) e
  where
    by_test : (b : Bool) → (find p xs ≡ Some y → list_any p xs ≡ true) → cond b (Some x) (find p xs) ≡ Some y → (b || list_any p xs) ≡ true
    by_test true later f = refl
    by_test false later f = later f

-- a node with an address is configured
node_known : (c : FabricConfig) (actor : ℕ) (at : List ℕ) → option_map (λ e. e.at) (find (λ e. e.node == actor) c.nodes) ≡ Some at → is_configured_node c actor ≡ true
node_known c actor at found = by_find (find (λ e. e.node == actor) c.nodes) refl found
  where
    by_find : (o : Option NodeEntry) → find (λ e. e.node == actor) c.nodes ≡ o → option_map (λ e. e.at) o ≡ Some at → is_configured_node c actor ≡ true
    by_find None f here = cc
    by_find (Some e) f here = listed (λ (x : NodeEntry). x.node == actor) c.nodes e f

known : (c : FabricConfig) (actor : ℕ) (at : List ℕ) → address_of c actor ≡ Some at → IsConfigured c actor
known c actor at found = λ node. node_known c actor at (subst (λ (b : Bool). (if b then option_map (λ a. a.1) (find (λ a. a.0 == arbiter_number actor) c.arbiters) else option_map (λ e. e.at) (find (λ e. e.node == actor) c.nodes)) ≡ Some at) node found)

abbrev IsKnown : FabricConfig → Endpoint → Type 0
IsKnown c e = IsConfigured c e.actor

known_at : (c : FabricConfig) (es : List Endpoint) → All (IsKnown c) es → (place : ℕ) (e : Endpoint) → slice_get es place ≡ Some e → IsConfigured c e.actor
known_at c es all place e here =
    subst (IsKnown c) (get_or_from_slice_get es place e e here) (All-get_or (IsKnown c) es place e (slice_get_within es place e here) all)

alone_serves : (c : FabricConfig) (whole : Who) (actor : ℕ) (at : List ℕ) → IsSound c → address_of c actor ≡ Some at → IsService (plan_for c whole actor at)
alone_serves c whole actor at sound found = record {
  good = record {
    sound = sound;
    some = omega arith;
    configured = known_at c (record { actor = actor; at = at } ∷ []) (All-cons (IsKnown c) (record { actor = actor; at = at }) [] (known c actor at found) (All-nil (IsKnown c)));
    orders = All-nil (λ (o : Order). FitsCommand o.command);
    rising = tt;
  };
  alone = refl;
  free = refl;
}

abbrev pub plan_by : FabricConfig → (whole : Who) → List Endpoint → List Order → Plan
plan_by c whole actors orders = record { config = c; whole = whole; actors = actors; orders = orders; turns = 0 }

-- an actor with an address can be served
pub served_by : (plan : Plan) (c : FabricConfig) (whole : Who) (actor : ℕ) (at : List ℕ) (actors : List Endpoint) (orders : List Order) → plan ≡ plan_by c whole actors orders → actors ≡ record { actor = actor; at = at } ∷ [] → orders ≡ [] → IsSound c → address_of c actor ≡ Some at → IsService plan
served_by plan c whole actor at actors orders is alone free sound found =
    subst IsService (sym (is ∙ (ap (λ (es : List Endpoint). plan_by c whole es orders) alone ∙ ap (λ (os : List Order). plan_by c whole (record { actor = actor; at = at } ∷ []) os) free)))
    (alone_serves c whole actor at sound found)
