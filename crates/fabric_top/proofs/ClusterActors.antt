-- The actors of a cluster rise, and each is configured as what its number says.
use Rattle.std.proofs.Common.{◌≡◌, ◌<◌, ◌≤◌, ◌+◌, ℕ, zero, suc, Bool, true, false, List, [], ◌∷◌, ◌++◌, length, Option, Some, None, arith, refl, ap, subst, ◌∙◌}
use Rattle.std.specs.Prelude.{All, ◌==◌, ◌&&◌, ◌||◌, find, nat_le, option_map, slice_get}
use Rattle.std.specs.List.{list_any}
use Rattle.std.proofs.lemmas.Bool.{eqb-true, le-leb, le-ltb, lt-ltb}
use Rattle.std.proofs.lemmas.List.Elements.{All-append, All-cons, All-head, All-nil, All-tail}
use Rattle.cluster_safety.specs.Plans.{Rise, is_configured, is_configured_as}
use Rattle.edge_io.specs.declared.endpoint.Endpoint.{Endpoint}
use Rattle.fabric_terms.specs.declared.config.FabricConfig.{FabricConfig}
use Rattle.fabric_terms.specs.declared.config.NodeEntry.{NodeEntry}
use Rattle.fabric_terms.specs.Sound.{IsSound}
use Rattle.ring_points.specs.Limits.{most_arbiters, most_node_number}
use Rattle.ring_points.specs.Whos.{arbiter_actor}
use Rattle.world_rules.specs.Events.{is_arbiter_actor}
use Rattle.turn_plans.specs.Crews.{arbiter_at, arbiters_to, listener, node_at, nodes_to}
use Rattle.turn_plans.proofs.Runs.{listed}

-- Lists of actors, one behind the other.

abbrev IsBelow : ℕ → Endpoint → Type 0
IsBelow high e = e.actor < high

abbrev pub IsOf : FabricConfig → Endpoint → Type 0
IsOf c e = is_configured c e.actor ≡ true

-- these rise from the one number, stay below the other, and are configured
pub record Stretch (c : FabricConfig) (low high : ℕ) (es : List Endpoint) : Type 0 where
  pub within : low ≤ high
  pub rise : Rise low es
  pub below : All (IsBelow high) es
  pub known : All (IsOf c) es

rise_lower : (low high : ℕ) (es : List Endpoint) → low ≤ high → Rise high es → Rise low es
rise_lower low high [] le r = tt
rise_lower low high (e ∷ es) le r = (omega (arith, le, r.0), r.1)

rise_on : (low high : ℕ) (xs ys : List Endpoint) → low ≤ high → Rise low xs → All (IsBelow high) xs → Rise high ys → Rise low (xs ++ ys)
rise_on low high [] ys le r below later = rise_lower low high ys le later
rise_on low high (x ∷ xs) ys le r below later =
    let under : x.actor < high = All-head (IsBelow high) x xs below in
    (r.0, rise_on (x.actor + 1) high xs ys (omega (arith, under)) r.1 (All-tail (IsBelow high) x xs below) later)

below_higher : (mid high : ℕ) (es : List Endpoint) → mid ≤ high → All (IsBelow mid) es → All (IsBelow high) es
below_higher mid high [] le below = All-nil (IsBelow high)
below_higher mid high (e ∷ es) le below =
    let under : e.actor < mid = All-head (IsBelow mid) e es below in
    All-cons (IsBelow high) e es (omega (arith, le, under)) (below_higher mid high es le (All-tail (IsBelow mid) e es below))

one_behind : (c : FabricConfig) (low mid high : ℕ) (xs ys : List Endpoint) → Stretch c low mid xs → Stretch c mid high ys → Stretch c low high (xs ++ ys)
one_behind c low mid high xs ys x y = record {
  within = omega (arith, x.within, y.within);
  rise = rise_on low mid xs ys x.within x.rise x.below y.rise;
  below = All-append (IsBelow high) xs ys (below_higher mid high xs y.within x.below) y.below;
  known = All-append (IsOf c) xs ys x.known y.known;
}

from_lower : (c : FabricConfig) (low mid high : ℕ) (es : List Endpoint) → low ≤ mid → Stretch c mid high es → Stretch c low high es
from_lower c low mid high es le s = record { within = omega (arith, le, s.within); rise = rise_lower low mid es le s.rise; below = s.below; known = s.known }

nobody : (c : FabricConfig) (low : ℕ) → Stretch c low low []
nobody c low = record { within = omega arith; rise = tt; below = All-nil (IsBelow low); known = All-nil (IsOf c) }

one : (c : FabricConfig) (actor : ℕ) (o : Option (List ℕ)) → ((at : List ℕ) → o ≡ Some at → is_configured c actor ≡ true) → Stretch c actor (suc actor) (listener actor o)
one c actor None known = record { within = omega arith; rise = tt; below = All-nil (IsBelow (suc actor)); known = All-nil (IsOf c) }
one c actor (Some at) known = record {
  within = omega arith;
  rise = (omega arith, tt);
  below = All-cons (IsBelow (suc actor)) (record { actor = actor; at = at }) [] (omega arith) (All-nil (IsBelow (suc actor)));
  known = All-cons (IsOf c) (record { actor = actor; at = at }) [] (known at refl) (All-nil (IsOf c));
}

-- Nodes.

no_arbiter : (n : ℕ) → n ≤ most_node_number → is_arbiter_actor n ≡ false
no_arbiter n le = le-ltb (arbiter_actor 0) n (omega (arith, le))

node_is_one : (c : FabricConfig) (n : ℕ) → n ≤ most_node_number → Stretch c n (suc n) (node_at c n)
node_is_one c n le = by_find (find (λ e. e.node == n) c.nodes) refl
  where
    by_find : (o : Option NodeEntry) → find (λ e. e.node == n) c.nodes ≡ o → Stretch c n (suc n) (listener n (option_map (λ e. e.at) o))
    by_find None f = one c n None (λ at h. cc)
    by_find (Some e) f = one c n (Some e.at) (λ at h. ap (is_configured_as c n) (no_arbiter n le) ∙ listed (λ (x : NodeEntry). x.node == n) c.nodes e f)

nodes_rise : (c : FabricConfig) (n : ℕ) → n ≤ most_node_number → Stretch c 1 (suc n) (nodes_to c n)
unfolding nodes_to
nodes_rise c zero le = nobody c 1
nodes_rise c (suc n) le =
    one_behind c 1 (suc n) (suc (suc n)) (nodes_to c n) (node_at c (suc n)) (nodes_rise c n (omega (arith, le))) (node_is_one c (suc n) le)

-- Arbitrators.

-- who is listed in order is one of so many
at_most : (xs : List (ℕ × List ℕ)) (k : ℕ) → ((i : ℕ) (a : ℕ × List ℕ) → slice_get xs i ≡ Some a → a.0 ≡ i + 1 + k) → (n : ℕ) → list_any (λ a. a.0 == n) xs ≡ true → n ≤ length xs + k
at_most [] k order n e = cc
at_most (x ∷ xs) k order n e =
    by_test (x.0 == n) refl (at_most xs (suc k) (λ i a h. let o : a.0 ≡ suc i + 1 + k = order (suc i) a h in omega arith) n) e
  where
    by_test : (b : Bool) → (x.0 == n) ≡ b → (list_any (λ a. a.0 == n) xs ≡ true → n ≤ length xs + suc k) → (b || list_any (λ a. a.0 == n) xs) ≡ true → n ≤ suc (length xs) + k
    by_test true same later f = let first : x.0 ≡ 0 + 1 + k = order 0 x refl in let is = eqb-true x.0 n same in omega arith
    by_test false other later f = let rest = later f in omega (arith, rest)

an_arbiter : (n : ℕ) → is_arbiter_actor (arbiter_actor (suc n)) ≡ true
an_arbiter n = lt-ltb (arbiter_actor 0) (arbiter_actor (suc n)) (omega arith)

arbiter_known : (c : FabricConfig) (n : ℕ) → IsSound c → list_any (λ a. a.0 == suc n) c.arbiters ≡ true → is_configured c (arbiter_actor (suc n)) ≡ true
arbiter_known c n sound there =
    let most = at_most c.arbiters 0 (λ i a h. let o : a.0 ≡ i + 1 = sound.arbiters_in_order i a h in omega arith) (suc n) there in
    let last : nat_le (arbiter_actor (suc n)) (arbiter_actor (length c.arbiters)) ≡ true = le-leb (arbiter_actor (suc n)) (arbiter_actor (length c.arbiters)) (omega (arith, most)) in
    ap (is_configured_as c (arbiter_actor (suc n))) (an_arbiter n)
    ∙ ap (λ (b : Bool). b && nat_le (arbiter_actor (suc n)) (arbiter_actor (length c.arbiters))) (an_arbiter n) ∙ last

arbiter_is_one : (c : FabricConfig) (n : ℕ) → IsSound c → Stretch c (arbiter_actor (suc n)) (arbiter_actor (suc (suc n))) (arbiter_at c (suc n))
arbiter_is_one c n sound =
    subst (λ (high : ℕ). Stretch c (arbiter_actor (suc n)) high (arbiter_at c (suc n))) next (by_find (find (λ a. a.0 == suc n) c.arbiters) refl)
  where
    next : suc (arbiter_actor (suc n)) ≡ arbiter_actor (suc (suc n))
    next = omega arith

    by_find : (o : Option (ℕ × List ℕ)) → find (λ a. a.0 == suc n) c.arbiters ≡ o → Stretch c (arbiter_actor (suc n)) (suc (arbiter_actor (suc n))) (listener (arbiter_actor (suc n)) (option_map (λ a. a.1) o))
    by_find None f = one c (arbiter_actor (suc n)) None (λ at h. cc)
    by_find (Some a) f = one c (arbiter_actor (suc n)) (Some a.1) (λ at h. arbiter_known c n sound (listed (λ (x : ℕ × List ℕ). x.0 == suc n) c.arbiters a f))

arbiters_rise : (c : FabricConfig) (n : ℕ) → IsSound c → Stretch c (arbiter_actor 1) (arbiter_actor (suc n)) (arbiters_to c n)
unfolding arbiters_to
arbiters_rise c zero sound = nobody c (arbiter_actor 1)
arbiters_rise c (suc n) sound =
    one_behind c (arbiter_actor 1) (arbiter_actor (suc n)) (arbiter_actor (suc (suc n))) (arbiters_to c n) (arbiter_at c (suc n)) (arbiters_rise c n sound) (arbiter_is_one c n sound)

-- all actors of a cluster
pub cluster_rises : (c : FabricConfig) → IsSound c → Stretch c 0 (arbiter_actor (suc most_arbiters)) (nodes_to c most_node_number ++ arbiters_to c most_arbiters)
cluster_rises c sound =
    let later : Stretch c (suc most_node_number) (arbiter_actor (suc most_arbiters)) (arbiters_to c most_arbiters) = from_lower c (suc most_node_number) (arbiter_actor 1) (arbiter_actor (suc most_arbiters)) (arbiters_to c most_arbiters) (omega arith) (arbiters_rise c most_arbiters sound) in
    from_lower c 0 1 (arbiter_actor (suc most_arbiters)) (nodes_to c most_node_number ++ arbiters_to c most_arbiters) (omega arith) (one_behind c 1 (suc most_node_number) (arbiter_actor (suc most_arbiters)) (nodes_to c most_node_number) (arbiters_to c most_arbiters) (nodes_rise c most_node_number (omega arith)) later)
