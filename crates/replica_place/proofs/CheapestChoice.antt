-- What is chosen is a choice, and no choice costs less.
use Rattle.std.proofs.Common.{◌≡◌, ◌≢◌, ℕ, zero, suc, ◌+◌, ◌<◌, ◌≤◌, ◌==◌, ◌⊎◌, inl, inr, Bool, true, false, nat_lt, List, [], ◌∷◌, length, get_or, take, remove, All, AllPairs, Any, Contains, IsTrue, refl, ap, arith}
use Rattle.std.proofs.lemmas.Bool.Decides.{nat_tests}
use Rattle.std.proofs.lemmas.List.{length-take, length-take-le, get_or-take}
use Rattle.std.proofs.lemmas.List.Edits.{length-remove, get_or-remove_below, get_or-remove_above}
use Rattle.std.proofs.lemmas.List.Elements.{All-cons, All-weaker, All-take, All-contains}
use Rattle.std.proofs.lemmas.List.Kept.{AllPairs-cons}
use Rattle.std.proofs.lemmas.List.Quantifiers.{all_pairs_remove}
use Rattle.std.proofs.lemmas.List.Sorted.{All-permutation, Contains-permutation}
use Rattle.std.proofs.lemmas.List.Sums.{sum_by-cons, sum_by-remove}
use Rattle.replica_place.specs.declared.load.NodeLoad.{NodeLoad}
use Rattle.replica_place.specs.Placement.{comes_before, least_nodes, inserted, in_order, chosen}
use Rattle.replica_place.specs.Choices.{cost, HasDomain, PlacementIsAChoice, PlacementIsInOrder, NoChoiceCostsLess}
use Rattle.fabric_lemmas.proofs.SortedLists.{Rises, AllPairs-head, AllPairs-tail}
use Rattle.replica_place.proofs.Order.{inserted_moves, in_order_moves, in_order_rises}
use Rattle.replica_place.proofs.InOrder.{length-in_order}
use Rattle.replica_place.proofs.DomainsUp.{length-least_nodes}
use Rattle.replica_place.proofs.LeastNodes.{IsLeast, least_in_is, least_in_some, least_nodes_have, least_nodes_are}

abbrev Apart : NodeLoad → NodeLoad → Type 0
Apart a b = a.domain ≢ b.domain

inserted_apart : (n : NodeLoad) (ms : List NodeLoad) → AllPairs Apart (n ∷ ms) → AllPairs Apart (inserted n ms)
inserted_apart n [] apart = apart
inserted_apart n (m ∷ ms) apart =
    by (comes_before n m) refl
    (inserted_apart n ms (AllPairs-cons Apart n ms (λ k d h. apart 0 (suc (suc k)) d (omega arith) (omega arith)) (λ i j d h k. apart (suc (suc i)) (suc (suc j)) d (omega arith) (omega arith))))
  where
    by : (b : Bool) → comes_before n m ≡ b → AllPairs Apart (inserted n ms) → AllPairs Apart (inserted n (m ∷ ms))
    by true e behind = rw e apart
    by false e behind =
        let first : n.domain ≢ m.domain = apart 0 1 n (omega arith) (omega arith) in
        let others = AllPairs-head Apart m ms (AllPairs-tail Apart n (m ∷ ms) apart) in
        rw e (AllPairs-cons Apart m (inserted n ms) (All-permutation (Apart m) (n ∷ ms) (inserted n ms) (inserted_moves n ms) (All-cons (Apart m) n ms (omega arith) others)) behind)

in_order_apart : (ns : List NodeLoad) → AllPairs Apart ns → AllPairs Apart (in_order ns)
in_order_apart [] apart = apart
in_order_apart (n ∷ ns) apart =
    inserted_apart n (in_order ns)
    (AllPairs-cons Apart n (in_order ns)
    (All-permutation (Apart n) ns (in_order ns) (in_order_moves ns) (AllPairs-head Apart n ns apart))
    (in_order_apart ns (AllPairs-tail Apart n ns apart)))

AllPairs-take : {X : Type 0} (R : X → X → Type 0) (n : ℕ) (xs : List X) → AllPairs R xs → AllPairs R (take n xs)
AllPairs-take R n xs pairs i j d h k =
    let many = length-take n xs in
    rw (get_or-take n xs i d (omega arith), get_or-take n xs j d (omega arith)) (pairs i j d h (omega arith))

pub is_choice : PlacementIsAChoice
is_choice nodes count enough =
    let are = least_nodes_are nodes in
    let moves = in_order_moves (least_nodes nodes) in
    let each = All-permutation (λ w. IsLeast nodes w.domain w) (least_nodes nodes) (in_order (least_nodes nodes)) moves are.each in
    let some = All-take (λ w. IsLeast nodes w.domain w) count (in_order (least_nodes nodes)) each in
    let most : count ≤ length (in_order (least_nodes nodes)) = omega (arith, length-in_order (least_nodes nodes), length-least_nodes nodes) in
    record {
      many = length-take-le count (in_order (least_nodes nodes)) most;
      given = All-weaker (λ w. IsLeast nodes w.domain w) (Contains nodes) (λ w is. is.given) (chosen nodes count) some;
      up = All-weaker (λ w. IsLeast nodes w.domain w) (λ w. IsTrue w.up) (λ w is. is.up) (chosen nodes count) some;
      apart = AllPairs-take Apart count (in_order (least_nodes nodes)) (in_order_apart (least_nodes nodes) are.apart);
    }

pub in_rising_order : PlacementIsInOrder
in_rising_order nodes count i j d h k =
    AllPairs-take (λ a b. comes_before b a ≡ false) count (in_order (least_nodes nodes)) (in_order_rises (least_nodes nodes)) i j d h k

-- w stands for c: it is of the same domain, and costs no more
abbrev StandsFor : NodeLoad → NodeLoad → Type 0
StandsFor c w = (w.domain ≡ c.domain) × (w.load ≤ c.load)

-- each of the choice has one that stands for it
abbrev IsCovered : List NodeLoad → List NodeLoad → Type 0
IsCovered ws cs = All (λ c. Any (StandsFor c) ws) cs

-- a place beside which no node of the list is of this domain
record Picked (domain : ℕ) (cs : List NodeLoad) : Type 0 where
  place : ℕ
  within : place < length cs
  only : (j : ℕ) (d : NodeLoad) → j < length cs → j ≢ place → (get_or cs j d).domain ≢ domain

-- the place of one of this domain
abbrev IsAt : ℕ → List NodeLoad → ℕ → Type 0
IsAt domain cs i = (i < length cs) × ((d : NodeLoad) → (get_or cs i d).domain ≡ domain)

abbrev NoneOf : ℕ → List NodeLoad → Type 0
NoneOf domain cs = All (λ c. c.domain ≢ domain) cs

seek : (domain : ℕ) (cs : List NodeLoad) → ((i : ℕ) × IsAt domain cs i) ⊎ NoneOf domain cs
seek domain [] = inr (λ k d h. absurd (omega arith))
seek domain (c ∷ cs) = by (c.domain == domain) refl (seek domain cs)
  where
    by : (b : Bool) → (c.domain == domain) ≡ b → ((i : ℕ) × IsAt domain cs i) ⊎ NoneOf domain cs
        → ((i : ℕ) × IsAt domain (c ∷ cs) i) ⊎ NoneOf domain (c ∷ cs)
    by true e rest = let here : c.domain ≡ domain = grind (arith, nat_tests, e) in inl (0, (omega arith, λ d. here))
    by false e (inl (i, (h, at))) = inl (suc i, (omega arith, at))
    by false e (inr none) =
        let not_here : c.domain ≢ domain = grind (arith, nat_tests, e) in
        inr (All-cons (λ x. x.domain ≢ domain) c cs not_here none)

-- in a choice, no other is of the domain of the one at i
beside : (domain : ℕ) (cs : List NodeLoad) → AllPairs Apart cs → (i : ℕ) → IsAt domain cs i
    → (j : ℕ) (d : NodeLoad) → j < length cs → j ≢ i → (get_or cs j d).domain ≢ domain
beside domain cs apart i (h, at) j d k ne = by (nat_lt j i) refl
  where
    by : (b : Bool) → nat_lt j i ≡ b → (get_or cs j d).domain ≢ domain
    by true e =
        let before : j < i = grind (arith, nat_tests, e) in
        let far : (get_or cs j d).domain ≢ (get_or cs i d).domain = apart j i d before h in
        omega (arith, far, at d)
    by false e =
        let behind : i < j = grind (arith, nat_tests, e, ne) in
        let far : (get_or cs i d).domain ≢ (get_or cs j d).domain = apart i j d behind k in
        omega (arith, far, at d)

pick : (domain : ℕ) (c : NodeLoad) (cs : List NodeLoad) → AllPairs Apart (c ∷ cs) → Picked domain (c ∷ cs)
pick domain c cs apart = by (seek domain (c ∷ cs))
  where
    by : ((i : ℕ) × IsAt domain (c ∷ cs) i) ⊎ NoneOf domain (c ∷ cs) → Picked domain (c ∷ cs)
    by (inl (i, at)) = record { place = i; within = at.0; only = λ j d k ne. beside domain (c ∷ cs) apart i at j d k ne }
    by (inr none) = record { place = 0; within = omega arith; only = λ j d k ne. none j d k }

-- the first of the nodes in order costs no more than what one of them stands for
first_is_least : (w : NodeLoad) (ws : List NodeLoad) (c : NodeLoad) → Rises comes_before (w ∷ ws) → Any (StandsFor c) (w ∷ ws) → w.load ≤ c.load
first_is_least w ws c rises (zero, v, h, e, (there, low)) = omega (arith, low, ap (λ x. x.load) e)
first_is_least w ws c rises (suc k, v, h, e, (there, low)) =
    let behind : comes_before (get_or ws k v) w ≡ false = AllPairs-head (λ a b. comes_before b a ≡ false) w ws rises k v (omega arith) in
    let least : w.load ≤ (get_or ws k v).load = grind (arith, nat_tests, behind) in
    omega (arith, least, low, ap (λ x. x.load) e)

All-remove : {X : Type 0} (Q : X → Type 0) (xs : List X) (i : ℕ) → i < length xs
    → ((j : ℕ) (d : X) → j < length xs → j ≢ i → Q (get_or xs j d)) → All Q (remove xs i)
All-remove {X = X} Q xs i within others k d h = by (nat_lt k i) refl
  where
    many : length (remove xs i) + 1 ≡ length xs
    many = length-remove xs i within

    by : (b : Bool) → nat_lt k i ≡ b → Q (get_or (remove xs i) k d)
    by true e =
        let below : k < i = grind (arith, nat_tests, e) in
        rw (get_or-remove_below xs i d k below within) (others k d (omega arith) (omega arith))
    by false e =
        let above : i ≤ k = grind (arith, nat_tests, e) in
        rw (get_or-remove_above xs i d k above within) (others (k + 1) d (omega (arith, many)) (omega arith))

covered_behind : (w : NodeLoad) (ws : List NodeLoad) (c : NodeLoad) → Any (StandsFor c) (w ∷ ws) → c.domain ≢ w.domain → Any (StandsFor c) ws
covered_behind w ws c (zero, v, h, e, (there, low)) other = absurd (omega (arith, there, other, ap (λ x. x.domain) e))
covered_behind w ws c (suc k, v, h, e, stands) other = (k, v, omega arith, e, stands)

-- the nodes in order cost no more than as many that they cover
cheapest : (ws cs : List NodeLoad) → Rises comes_before ws → IsCovered ws cs → AllPairs Apart cs → cost (take (length cs) ws) ≤ cost cs
cheapest [] [] rises covered apart = omega arith
cheapest [] (c ∷ cs) rises covered apart = let none = covered 0 c (omega arith) in absurd (omega (arith, none.2))
cheapest (w ∷ ws) [] rises covered apart = omega arith
cheapest (w ∷ ws) (c ∷ cs) rises covered apart =
    let picked = pick w.domain c cs apart in
    let covered_left : IsCovered ws (remove (c ∷ cs) picked.place) =
    All-remove (λ x. Any (StandsFor x) ws) (c ∷ cs) picked.place picked.within
    (λ j d h ne. covered_behind w ws (get_or (c ∷ cs) j d) (covered j d h) (picked.only j d h ne)) in
    let rest = cheapest ws (remove (c ∷ cs) picked.place) (AllPairs-tail (λ a b. comes_before b a ≡ false) w ws rises) covered_left
    (all_pairs_remove Apart (c ∷ cs) picked.place picked.within apart) in
    let least = first_is_least w ws (get_or (c ∷ cs) picked.place c) rises (covered picked.place c picked.within) in
    let as_many : length (remove (c ∷ cs) picked.place) ≡ length cs = omega (arith, length-remove (c ∷ cs) picked.place picked.within) in
    let rest_of : cost (take (length cs) ws) ≤ cost (remove (c ∷ cs) picked.place) = rw as_many at rest in
    omega (arith, rest_of, least, sum_by-remove (λ n. n.load) (c ∷ cs) picked.place c picked.within, sum_by-cons (λ n. n.load) w (take (length cs) ws))

pub none_costs_less : NoChoiceCostsLess
none_costs_less nodes count choice domains is =
    rw is.many at (cheapest (in_order (least_nodes nodes)) choice (in_order_rises (least_nodes nodes)) covered is.apart)
  where
    covered : IsCovered (in_order (least_nodes nodes)) choice
    covered k d h =
        let given = is.given k d h in
        let range = All-contains HasDomain nodes (get_or choice k d) domains given in
        let found = least_in_some nodes (get_or choice k d).domain (get_or choice k d) given (is.up k d h) refl in
        let least = least_in_is nodes (get_or choice k d).domain found.0 found.1 in
        let has = Contains-permutation (least_nodes nodes) (in_order (least_nodes nodes)) found.0 (in_order_moves (least_nodes nodes))
        (least_nodes_have nodes (get_or choice k d).domain found.0 range.0 range.1 found.1) in
        (has.0, found.0, has.1, has.2, (least.there, least.least (get_or choice k d) given (is.up k d h) refl))
