-- There are as many least nodes as domains with an up node.
use Rattle.std.proofs.Common.{◌≡◌, ℕ, ◌&&◌, ◌==◌, Bool, true, false, cond, List, [], ◌∷◌, length, filter, filter_map, count_by, Option, Some, None, is_some, refl, ap, sym, ◌∙◌, arith}
use Rattle.std.specs.List.{list_any, range_with_len}
use Rattle.std.proofs.lemmas.List.Sums.{sum_by-cons}
use Rattle.replica_place.specs.declared.load.NodeLoad.{NodeLoad}
use Rattle.replica_place.specs.Placement.{first_of, least_in, least_nodes, has_up, domains_up}

-- where one passes the test, one of those that pass is the first
first_of-filter : (p : NodeLoad → Bool) (ns : List NodeLoad) → is_some (first_of (filter p ns)) ≡ list_any p ns
first_of-filter p [] = refl
first_of-filter p (n ∷ ns) = by (p n) refl (first_of-filter p ns)
  where
    by : (b : Bool) → p n ≡ b → is_some (first_of (filter p ns)) ≡ list_any p ns
        → is_some (first_of (filter p (n ∷ ns))) ≡ list_any p (n ∷ ns)
    by true e rest = rw e refl
    by false e rest = rw e rest

length-filter_map : {X Y : Type 0} (f : X → Option Y) (p : X → Bool) → ((x : X) → is_some (f x) ≡ p x)
    → (xs : List X) → length (filter_map f xs) ≡ count_by p xs
length-filter_map f p same [] = refl
length-filter_map {X = X} {Y = Y} f p same (x ∷ xs) = by (f x) refl (length-filter_map f p same xs)
  where
    counted : X → ℕ
    counted y = cond (p y) 1 0

    by : (o : Option Y) → f x ≡ o → length (filter_map f xs) ≡ count_by p xs → length (filter_map f (x ∷ xs)) ≡ count_by p (x ∷ xs)
    by None e rest =
        let none : p x ≡ false = sym (same x) ∙ ap is_some e in
        let not_counted : counted x ≡ 0 = rw none refl in
        rw e (omega (arith, rest, not_counted, sum_by-cons counted x xs))
    by (Some y) e rest =
        let one : p x ≡ true = sym (same x) ∙ ap is_some e in
        let once : counted x ≡ 1 = rw one refl in
        rw e (omega (arith, rest, once, sum_by-cons counted x xs))

pub length-least_nodes : (nodes : List NodeLoad) → length (least_nodes nodes) ≡ domains_up nodes
unfolding least_nodes domains_up
length-least_nodes nodes =
    length-filter_map (least_in nodes) (has_up nodes) (λ d. first_of-filter (λ n. n.up && n.domain == d) nodes) (range_with_len 1 64)
