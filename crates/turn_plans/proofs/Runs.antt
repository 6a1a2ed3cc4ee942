-- What is read can be run: each actor is configured, and there is one at least.
use Rattle.std.proofs.Common.{◌≡◌, ◌<◌, ◌≤◌, ◌+◌, ℕ, zero, suc, Bool, true, false, cond, List, [], ◌∷◌, length, Option, Some, None, arith, refl, ap, sym, subst, ◌∙◌, length-append}
use Rattle.std.specs.Prelude.{All, ◌==◌, ◌||◌, find, option_map, slice_get}
use Rattle.std.specs.List.{list_any}
use Rattle.std.proofs.lemmas.Bool.{eq-eqb, eqb-true, ltb-false}
use Rattle.std.proofs.lemmas.List.Elements.{All-append, All-cons, All-get_or, All-nil}
use Rattle.std.proofs.lemmas.Option.{get_or_from_slice_get, slice_get_within}
use Rattle.world_rules.specs.Starts.{first_whole}
use Rattle.edge_io.specs.declared.endpoint.Endpoint.{Endpoint}
use Rattle.fabric_terms.specs.Ranges.{FitsCommand}
use Rattle.fabric_terms.specs.Sound.{IsSound}
use Rattle.fabric_terms.specs.declared.config.FabricConfig.{FabricConfig}
use Rattle.fabric_terms.specs.declared.config.NodeEntry.{NodeEntry}
use Rattle.ring_points.specs.Whos.{arbiter_actor}
use Rattle.ring_points.specs.declared.who.Who.{Who}
use Rattle.turn_rules.specs.Plans.{IsPlan, IsConfigured, Plan, Rises}
use Rattle.turn_rules.specs.declared.order.Order.{Order}
use Rattle.turn_plans.specs.Crews.{arbiter_at, arbiters_to, endpoints_of, is_crew, listener, node_at, nodes_to}
use Rattle.turn_plans.specs.declared.crew.Crew.{Crew}
use Rattle.turn_plans.specs.declared.crew.Crew.TheVariants.{Node, Arbiter, Cluster}

-- who is listed is found, and who is found is listed

pub found : {X : Type 0} (p : X → Bool) (xs : List X) → list_any p xs ≡ true → (x : X) × (find p xs ≡ Some x)
found p [] e = cc
found {X} p (x ∷ xs) e = by_test (p x) (found p xs) e
  where
    by_test : (b : Bool) → (list_any p xs ≡ true → (y : X) × (find p xs ≡ Some y)) → (b || list_any p xs) ≡ true → (y : X) × (cond b (Some x) (find p xs) ≡ Some y)
    by_test true later f = (x, refl)
    by_test false later f = later f

pub listed : {X : Type 0} (p : X → Bool) (xs : List X) (y : X) → find p xs ≡ Some y → list_any p xs ≡ true
listed p [] y e = cc
listed p (x ∷ xs) y e = by_test (p x) (listed p xs y) e
  where
    by_test : (b : Bool) → (find p xs ≡ Some y → list_any p xs ≡ true) → cond b (Some x) (find p xs) ≡ Some y → (b || list_any p xs) ≡ true
    by_test true later f = refl
    by_test false later f = later f

-- there is one at least

some_listens : {X : Type 0} (actor : ℕ) (at : X → List ℕ) (p : X → Bool) (xs : List X) → list_any p xs ≡ true → 0 < length (listener actor (option_map at (find p xs)))
some_listens {X} actor at p xs e = let f = found p xs e in subst (λ (o : Option X). 0 < length (listener actor (option_map at o))) (sym f.1) one
  where
    one : 0 < 1
    one = omega arith

-- an arbitrator has the number 1
one_listed : (xs : List (ℕ × List ℕ)) → 1 ≤ length xs → ((k : ℕ) (a : ℕ × List ℕ) → slice_get xs k ≡ Some a → a.0 ≡ k + 1) → list_any (λ a. a.0 == 1) xs ≡ true
one_listed [] some order = absurd (omega arith)
one_listed (x ∷ xs) some order =
    let one : x.0 ≡ 1 = order 0 x refl in
    ap (λ (b : Bool). b || list_any (λ (a : ℕ × List ℕ). a.0 == 1) xs) (eq-eqb x.0 1 one)

one_among : (c : FabricConfig) (n : ℕ) → 0 < length (arbiter_at c 1) → 0 < length (arbiters_to c (suc n))
unfolding arbiters_to
one_among c zero some = some
one_among c (suc n) some = omega (arith, length-append (arbiters_to c (suc n)) (arbiter_at c (suc (suc n))), one_among c n some)

some_run : (c : FabricConfig) (crew : Crew) → IsSound c → is_crew c crew ≡ true → 0 < length (endpoints_of c crew)
some_run c (Node node) sound there = some_listens node (λ (e : NodeEntry). e.at) (λ e. e.node == node) c.nodes there
some_run c (Arbiter arbiter) sound there = some_listens (arbiter_actor arbiter) (λ (a : ℕ × List ℕ). a.1) (λ a. a.0 == arbiter) c.arbiters there
some_run c Cluster sound there =
    let first : 0 < length (arbiter_at c 1) = some_listens (arbiter_actor 1) (λ (a : ℕ × List ℕ). a.1) (λ a. a.0 == 1) c.arbiters (one_listed c.arbiters sound.arbiters_count.from_low sound.arbiters_in_order) in
    omega (arith, length-append (nodes_to c 999) (arbiters_to c 9), one_among c 8 first)

-- each is configured

abbrev IsKnown : FabricConfig → Endpoint → Type 0
IsKnown c e = IsConfigured c e.actor

known_one : (c : FabricConfig) (actor : ℕ) (o : Option (List ℕ)) → ((at : List ℕ) → o ≡ Some at → IsConfigured c actor) → All (IsKnown c) (listener actor o)
known_one c actor None known = All-nil (IsKnown c)
known_one c actor (Some at) known = All-cons (IsKnown c) (record { actor = actor; at = at }) [] (known at refl) (All-nil (IsKnown c))

node_known : (c : FabricConfig) (n : ℕ) → All (IsKnown c) (node_at c n)
node_known c n = by_find (find (λ e. e.node == n) c.nodes) refl
  where
    by_find : (o : Option NodeEntry) → find (λ e. e.node == n) c.nodes ≡ o → All (IsKnown c) (listener n (option_map (λ e. e.at) o))
    by_find None f = All-nil (IsKnown c)
    by_find (Some e) f = known_one c n (Some e.at) (λ at h node. listed (λ (x : NodeEntry). x.node == n) c.nodes e f)

all_nodes_known : (c : FabricConfig) (n : ℕ) → All (IsKnown c) (nodes_to c n)
unfolding nodes_to
all_nodes_known c zero = All-nil (IsKnown c)
all_nodes_known c (suc n) = All-append (IsKnown c) (nodes_to c n) (node_at c (suc n)) (all_nodes_known c n) (node_known c (suc n))

an_arbiter : (c : FabricConfig) (n : ℕ) → 1 ≤ n → IsConfigured c (arbiter_actor n)
an_arbiter c n some = λ node. let low = ltb-false (arbiter_actor 0) (arbiter_actor n) node in absurd (omega arith)

arbiter_known : (c : FabricConfig) (n : ℕ) → 1 ≤ n → All (IsKnown c) (arbiter_at c n)
arbiter_known c n some = known_one c (arbiter_actor n) (option_map (λ a. a.1) (find (λ a. a.0 == n) c.arbiters)) (λ at h. an_arbiter c n some)

all_arbiters_known : (c : FabricConfig) (n : ℕ) → All (IsKnown c) (arbiters_to c n)
unfolding arbiters_to
all_arbiters_known c zero = All-nil (IsKnown c)
all_arbiters_known c (suc n) = All-append (IsKnown c) (arbiters_to c n) (arbiter_at c (suc n)) (all_arbiters_known c n) (arbiter_known c (suc n) (omega arith))

-- the numbers of arbitrators begin with 1
at_least_one : (xs : List (ℕ × List ℕ)) (k : ℕ) → ((i : ℕ) (a : ℕ × List ℕ) → slice_get xs i ≡ Some a → a.0 ≡ i + 1 + k) → (n : ℕ) → list_any (λ a. a.0 == n) xs ≡ true → 1 ≤ n
at_least_one [] k order n e = cc
at_least_one (x ∷ xs) k order n e =
    by_test (x.0 == n) refl (at_least_one xs (suc k) (λ i a h. let o : a.0 ≡ suc i + 1 + k = order (suc i) a h in omega arith) n) e
  where
    by_test : (b : Bool) → (x.0 == n) ≡ b → (list_any (λ a. a.0 == n) xs ≡ true → 1 ≤ n) → (b || list_any (λ a. a.0 == n) xs) ≡ true → 1 ≤ n
    by_test true same later f = let one : x.0 ≡ 0 + 1 + k = order 0 x refl in let is = eqb-true x.0 n same in omega arith
    by_test false other later f = later f

all_known : (c : FabricConfig) (crew : Crew) → IsSound c → is_crew c crew ≡ true → All (IsKnown c) (endpoints_of c crew)
all_known c (Node node) sound there = node_known c node
all_known c (Arbiter arbiter) sound there =
    arbiter_known c arbiter (at_least_one c.arbiters 0 (λ i a h. let o : a.0 ≡ i + 1 = sound.arbiters_in_order i a h in omega arith) arbiter there)
all_known c Cluster sound there = All-append (IsKnown c) (nodes_to c 999) (arbiters_to c 9) (all_nodes_known c 999) (all_arbiters_known c 9)

known_at : (c : FabricConfig) (es : List Endpoint) → All (IsKnown c) es → (place : ℕ) (e : Endpoint) → slice_get es place ≡ Some e → IsConfigured c e.actor
known_at c es all place e here =
    subst (IsKnown c) (get_or_from_slice_get es place e e here) (All-get_or (IsKnown c) es place e (slice_get_within es place e here) all)

-- what is read can be run
pub is_plan : (crew : Crew) (c : FabricConfig) (actors : List Endpoint) (turns : ℕ) (orders : List Order) → actors ≡ endpoints_of c crew → IsSound c → is_crew c crew ≡ true → All (λ o. FitsCommand o.command) orders → Rises 1 orders → IsPlan (record { config = c; whole = first_whole c; actors = actors; orders = orders; turns = turns })
is_plan crew c actors turns orders same sound there fit rising = record {
  sound = sound;
  some = subst (λ (es : List Endpoint). 0 < length es) (sym same) (some_run c crew sound there);
  configured = known_at c actors (subst (λ (es : List Endpoint). All (IsKnown c) es) (sym same) (all_known c crew sound there));
  orders = fit;
  rising = rising;
}

-- a plan of the first life
pub is_read : (c : FabricConfig) (actors : List Endpoint) (orders : List Order) (turns : ℕ) (plan : Plan) (whole : Who) → plan ≡ record { config = c; whole = whole; actors = actors; orders = orders; turns = turns } → whole ≡ first_whole c
    → plan ≡ record { config = c; whole = first_whole c; actors = actors; orders = orders; turns = turns }
is_read c actors orders turns plan whole is first = is ∙ ap (λ (w : Who). record { config = c; whole = w; actors = actors; orders = orders; turns = turns }) first
