-- The least nodes: up, of distinct domains, and one for each domain with an up node.
use Rattle.std.proofs.Common.{◌≡◌, ◌≢◌, ℕ, zero, suc, ◌+◌, ◌-◌, ◌≤◌, ◌&&◌, ◌==◌, Bool, true, false, List, [], ◌∷◌, get_or, filter, filter_map, Option, Some, None, All, AllPairs, Contains, add-one, refl, sym, ◌∙◌, arith, subst}
use Rattle.std.specs.List.{best_of, range_with_len, cons_option}
use Rattle.std.proofs.lemmas.Bool.Decides.{nat_tests}
use Rattle.std.proofs.lemmas.List.{get_or_default}
use Rattle.std.proofs.lemmas.List.Elements.{All-cons, All-push, All-weaker, All-filter, All-contains, All-contains_itself, Contains-append_right, filter_passes}
use Rattle.std.proofs.lemmas.List.FromFn.{length-range_with_len, get_or-range_with_len}
use Rattle.std.proofs.lemmas.List.MinMax.{IsFirstBest-from_best_of}
use Rattle.std.proofs.lemmas.List.Quantifiers.{all_pairs_push}
use Rattle.replica_place.specs.declared.load.NodeLoad.{NodeLoad}
use Rattle.replica_place.specs.Placement.{comes_before, first_of, least_in, least_nodes}
use Rattle.replica_place.proofs.Order.{by_load}
use Rattle.replica_place.proofs.Domains.{least_upto, none_more, one_more, all_domains}

first_of_is : (ns : List NodeLoad) (w : NodeLoad) → first_of ns ≡ Some w
    → Contains ns w × All (λ n. comes_before n w ≡ false) ns
first_of_is [] w e = absurd (cc)
first_of_is (a ∷ ns) w e =
    let best = IsFirstBest-from_best_of {beats = comes_before} by_load a ns in
    let is : best_of comes_before a ns ≡ w = cc in
    let at : get_or (a ∷ ns) best.0 w ≡ w = get_or_default (a ∷ ns) best.0 w a best.1.0 ∙ best.2 ∙ is in (
      (best.0, best.1.0, at),
      λ k d h. rw (← is, ← best.2) (rw (get_or_default (a ∷ ns) best.0 a d best.1.0) (best.1.1 k d h)),
    )

both : (a b : Bool) → (a && b) ≡ true → (a ≡ true) × (b ≡ true)
both true b e = (refl, e)
both false b e = absurd (cc)

Contains-cons : {X : Type 0} (x y : X) (xs : List X) → Contains xs y → Contains (x ∷ xs) y
Contains-cons x y xs has = Contains-append_right (x ∷ []) xs y has

-- what passes is kept
kept : {X : Type 0} (p : X → Bool) (xs : List X) → All (λ x. p x ≡ true → Contains (filter p xs) x) xs
kept p [] = λ k d h. absurd (omega arith)
kept {X = X} p (x ∷ xs) = by (p x) refl (kept p xs)
  where
    by : (b : Bool) → p x ≡ b → All (λ y. p y ≡ true → Contains (filter p xs) y) xs
        → All (λ y. p y ≡ true → Contains (filter p (x ∷ xs)) y) (x ∷ xs)
    by true e rest =
        rw e (All-cons (λ y. p y ≡ true → Contains (x ∷ filter p xs) y) x xs (λ _. (0, omega arith, refl))
        (All-weaker (λ y. p y ≡ true → Contains (filter p xs) y) (λ y. p y ≡ true → Contains (x ∷ filter p xs) y)
        (λ y has t. Contains-cons x y (filter p xs) (has t)) xs rest))
    by false e rest =
        rw e (All-cons (λ y. p y ≡ true → Contains (filter p xs) y) x xs (λ t. let never : true ≡ false = sym t ∙ e in absurd (cc)) rest)

pub record IsLeast (nodes : List NodeLoad) (domain : ℕ) (w : NodeLoad) : Type 0 where
  pub given : Contains nodes w
  pub up : w.up ≡ true
  pub there : w.domain ≡ domain
  pub least : (c : NodeLoad) → Contains nodes c → c.up ≡ true → c.domain ≡ domain → w.load ≤ c.load

abbrev is_up_in : ℕ → NodeLoad → Bool
is_up_in domain n = n.up && n.domain == domain

passes : (domain : ℕ) (c : NodeLoad) → c.up ≡ true → c.domain ≡ domain → is_up_in domain c ≡ true
passes domain c up there = grind (arith, nat_tests, up, there)

pub least_in_is : (nodes : List NodeLoad) (domain : ℕ) (w : NodeLoad) → least_in nodes domain ≡ Some w → IsLeast nodes domain w
least_in_is nodes domain w e =
    let found = first_of_is (filter (is_up_in domain) nodes) w e in
    let parts = both w.up (w.domain == domain) (All-contains (λ n. is_up_in domain n ≡ true) (filter (is_up_in domain) nodes) w (filter_passes (is_up_in domain) nodes) found.0) in
    record {
      given = All-contains (Contains nodes) (filter (is_up_in domain) nodes) w (All-filter (is_up_in domain) (Contains nodes) nodes (All-contains_itself nodes)) found.0;
      up = parts.0;
      there = grind (arith, nat_tests, parts.1);
      least = λ c has up there.
          let in_it = All-contains (λ n. is_up_in domain n ≡ true → Contains (filter (is_up_in domain) nodes) n) nodes c (kept (is_up_in domain) nodes) has (passes domain c up there) in
          let behind : comes_before c w ≡ false = All-contains (λ n. comes_before n w ≡ false) (filter (is_up_in domain) nodes) c found.1 in_it in
          grind (arith, nat_tests, behind);
    }

pub least_in_some : (nodes : List NodeLoad) (domain : ℕ) (c : NodeLoad) → Contains nodes c → c.up ≡ true → c.domain ≡ domain
    → (w : NodeLoad) × (least_in nodes domain ≡ Some w)
least_in_some nodes domain c has up there =
    by (filter (is_up_in domain) nodes)
    (All-contains (λ n. is_up_in domain n ≡ true → Contains (filter (is_up_in domain) nodes) n) nodes c (kept (is_up_in domain) nodes) has (passes domain c up there))
  where
    by : (ns : List NodeLoad) → Contains ns c → (w : NodeLoad) × (first_of ns ≡ Some w)
    by [] (k, h, e) = absurd (omega arith)
    by (n ∷ ns) in_it = (best_of comes_before n ns, refl)

-- every least node is among the least nodes
filter_map_has : {X Y : Type 0} (f : X → Option Y) (xs : List X) → All (λ x. (y : Y) → f x ≡ Some y → Contains (filter_map f xs) y) xs
filter_map_has f [] = λ k d h. absurd (omega arith)
filter_map_has {Y = Y} f (x ∷ xs) =
    All-cons (λ z. (y : Y) → f z ≡ Some y → Contains (filter_map f (x ∷ xs)) y) x xs
    (λ y e. rw e (0, omega arith, refl))
    (All-weaker (λ z. (y : Y) → f z ≡ Some y → Contains (filter_map f xs) y) (λ z. (y : Y) → f z ≡ Some y → Contains (filter_map f (x ∷ xs)) y)
    (λ z has y e. behind (f x) (filter_map f xs) y (has y e)) xs (filter_map_has f xs))
  where
    behind : (o : Option Y) (ys : List Y) (y : Y) → Contains ys y → Contains (cons_option o ys) y
    behind None ys y has = has
    behind (Some z) ys y has = Contains-cons z y ys has

pub least_nodes_have : (nodes : List NodeLoad) (domain : ℕ) (w : NodeLoad) → 1 ≤ domain → domain ≤ 64
    → least_in nodes domain ≡ Some w → Contains (least_nodes nodes) w
least_nodes_have nodes domain w low high e = rw (← all_domains nodes 64 refl) (at 64 high)
  where
    at : (n : ℕ) → domain ≤ n → Contains (least_upto nodes n) w
    at n within =
        let there : get_or (range_with_len 1 n) (domain - 1) 0 ≡ domain =
        get_or-range_with_len 1 n (domain - 1) 0 (omega arith) ∙ omega arith in
        let has : Contains (range_with_len 1 n) domain =
        (domain - 1, omega (arith, length-range_with_len 1 n), get_or_default (range_with_len 1 n) (domain - 1) domain 0 (omega (arith, length-range_with_len 1 n)) ∙ there) in
        All-contains (λ d. (v : NodeLoad) → least_in nodes d ≡ Some v → Contains (least_upto nodes n) v) (range_with_len 1 n) domain
        (filter_map_has (least_in nodes) (range_with_len 1 n)) has w e

pub record AreLeast (nodes : List NodeLoad) (n : ℕ) (ws : List NodeLoad) : Type 0 where
  pub each : All (λ w. IsLeast nodes w.domain w) ws
  pub upto : All (λ w. w.domain ≤ n) ws
  pub apart : AllPairs (λ a b. a.domain ≢ b.domain) ws

least_upto_are : (nodes : List NodeLoad) (n : ℕ) → AreLeast nodes n (least_upto nodes n)
least_upto_are nodes zero = record {
  each = λ k d h. absurd (omega arith);
  upto = λ k d h. absurd (omega arith);
  apart = λ i j d h k. absurd (omega arith);
}
least_upto_are nodes (suc n) =
    subst (λ k. AreLeast nodes k (least_upto nodes k)) (add-one n) (by (least_in nodes (n + 1)) refl (least_upto_are nodes n))
  where
    more : (ws : List NodeLoad) → All (λ w. w.domain ≤ n) ws → All (λ w. w.domain ≤ n + 1) ws
    more ws upto = All-weaker (λ w. w.domain ≤ n) (λ w. w.domain ≤ n + 1) (λ w h. omega arith) ws upto

    by : (o : Option NodeLoad) → least_in nodes (n + 1) ≡ o → AreLeast nodes n (least_upto nodes n)
        → AreLeast nodes (n + 1) (least_upto nodes (n + 1))
    by None e so_far =
        rw (none_more nodes n e) (record { each = so_far.each; upto = more (least_upto nodes n) so_far.upto; apart = so_far.apart })
    by (Some w) e so_far =
        let is = least_in_is nodes (n + 1) w e in
        let here : IsLeast nodes w.domain w = subst (λ d. IsLeast nodes d w) (sym is.there) is in
        rw (one_more nodes n w e) (record {
          each = All-push (λ v. IsLeast nodes v.domain v) (least_upto nodes n) w so_far.each here;
          upto = All-push (λ v. v.domain ≤ n + 1) (least_upto nodes n) w (more (least_upto nodes n) so_far.upto) (omega (arith, is.there));
          apart = all_pairs_push (λ a b. a.domain ≢ b.domain) (least_upto nodes n) w so_far.apart
              (λ k d h. let below = so_far.upto k d h in omega (arith, is.there, below));
        })

pub least_nodes_are : (nodes : List NodeLoad) → AreLeast nodes 64 (least_nodes nodes)
least_nodes_are nodes = rw (← all_domains nodes 64 refl) (least_upto_are nodes 64)
