-- The numbers at which something passes a test, sorted, are those of the map in its order.
use Rattle.std.proofs.Common.{◌≡◌, ℕ, ◌+◌, ◌<◌, ◌≤◌, Bool, true, false, cond, List, [], ◌∷◌, map, filter, All, AllPairs, refl, ap, sym, ◌∙◌, arith, sum_by}
use Rattle.std.specs.Prelude.{◌==◌, nat_lt, nat_le, nat_eq}
use Rattle.std.specs.Cmp.{IsStrictWeakOrder}
use Rattle.std.specs.List.{IsDistinct}
use Rattle.std.specs.List.Sorted.{IsPermutation, IsSortedBy}
use Rattle.std.specs.Map.{keys_of}
use Rattle.std.specs.Ordering.{nat_cmp, is_lt}
use Rattle.std.proofs.lemmas.Bool.{and_parts}
use Rattle.std.proofs.lemmas.Bool.Decides.{nat_tests}
use Rattle.std.proofs.lemmas.List.Elements.{All-cons, All-weaker, All-map}
use Rattle.std.proofs.lemmas.List.Kept.{AllPairs-cons, AllPairs-filter}
use Rattle.std.proofs.lemmas.List.Sorted.{sum_by-IsPermutation, sorted_far}
use Rattle.std.proofs.lemmas.List.Sums.{sum_by-cons}
use Rattle.fabric_lemmas.specs.Maps.{rises_from, map_of}
use Rattle.fabric_lemmas.proofs.Tables.{rises-map_of, sum_by-map_of}
use Rattle.fabric_lemmas.proofs.SortedLists.{Rises, AllPairs-head, AllPairs-tail, same_sorted}

-- all numbers of a map are from its first on
numbers_from : {X : Type 0} (low : ℕ) (es : List (ℕ × X)) → rises_from low es ≡ true → All (λ e. low ≤ e.0) es
numbers_from low [] up = λ k d h. absurd (omega arith)
numbers_from low (e ∷ es) up =
    let parts : (nat_le low e.0 ≡ true) × (rises_from (e.0 + 1) es ≡ true) = and_parts (nat_le low e.0) (rises_from (e.0 + 1) es) up in
    let first : low ≤ e.0 = grind (arith, nat_tests, parts.0) in
    All-cons (λ f. low ≤ f.0) e es first
    (All-weaker (λ f. e.0 + 1 ≤ f.0) (λ f. low ≤ f.0) (λ f h. omega arith) es (numbers_from (e.0 + 1) es parts.1))

pub AllPairs-from_rises : {X : Type 0} (low : ℕ) (es : List (ℕ × X)) → rises_from low es ≡ true → AllPairs (λ a b. a.0 < b.0) es
AllPairs-from_rises low [] up = λ i j d h k. absurd (omega arith)
AllPairs-from_rises low (e ∷ es) up =
    let parts : (nat_le low e.0 ≡ true) × (rises_from (e.0 + 1) es ≡ true) = and_parts (nat_le low e.0) (rises_from (e.0 + 1) es) up in
    AllPairs-cons (λ a b. a.0 < b.0) e es
    (All-weaker (λ f. e.0 + 1 ≤ f.0) (λ f. e.0 < f.0) (λ f h. omega arith) es (numbers_from (e.0 + 1) es parts.1))
    (AllPairs-from_rises (e.0 + 1) es parts.1)

abbrev below : ℕ → ℕ → Bool
below m n = is_lt (nat_cmp m n)

below-is : (m n : ℕ) → below m n ≡ nat_lt m n
below-is m n = by (nat_lt m n) (m == n) refl refl
  where
    by : (p q : Bool) → nat_lt m n ≡ p → (m == n) ≡ q → below m n ≡ nat_lt m n
    by true q e f = rw e refl
    by false true e f = rw (e, f) refl
    by false false e f = rw (e, f) refl

below_orders : IsStrictWeakOrder below
below_orders = record {
  one_way = λ x y h. let e = sym (below-is x y) ∙ h in below-is y x ∙ grind (arith, nat_tests, e);
  chain = λ x y z h k. let e = sym (below-is x y) ∙ h in let f = sym (below-is y z) ∙ k in below-is x z ∙ grind (arith, nat_tests, e, f);
}

numbers_rise : {X : Type 0} (es : List (ℕ × X)) → AllPairs (λ a b. a.0 < b.0) es → Rises below (map (λ e. e.0) es)
numbers_rise [] pairs = λ i j d h k. absurd (omega arith)
numbers_rise (e ∷ es) pairs =
    AllPairs-cons (λ m n. below n m ≡ false) e.0 (map (λ f. f.0) es)
    (All-map (λ n. below n e.0 ≡ false) (λ f. f.0) es
    (All-weaker (λ f. e.0 < f.0) (λ f. below f.0 e.0 ≡ false) (λ f h. below-is f.0 e.0 ∙ grind (arith, nat_tests, h)) es (AllPairs-head (λ a b. a.0 < b.0) e es pairs)))
    (numbers_rise es (AllPairs-tail (λ a b. a.0 < b.0) e es pairs))

sum_by-passed : {X : Type 0} (p : ℕ × X → Bool) (f : ℕ → ℕ) (es : List (ℕ × X))
    → sum_by f (map (λ e. e.0) (filter p es)) ≡ sum_by (λ e. cond (p e) (f e.0) 0) es
sum_by-passed p f [] = refl
sum_by-passed {X = X} p f (e ∷ es) = by (p e) refl (sum_by-passed p f es)
  where
    counted : ℕ × X → ℕ
    counted g = cond (p g) (f g.0) 0

    by : (b : Bool) → p e ≡ b → sum_by f (map (λ g. g.0) (filter p es)) ≡ sum_by counted es
        → sum_by f (map (λ g. g.0) (filter p (e ∷ es))) ≡ sum_by counted (e ∷ es)
    by true h rest =
        let kept : filter p (e ∷ es) ≡ e ∷ filter p es = rw h refl in
        let here : counted e ≡ f e.0 = rw h refl in
        let total : sum_by f (e.0 ∷ map (λ g. g.0) (filter p es)) ≡ sum_by counted (e ∷ es) =
        omega (arith, rest, here, sum_by-cons counted e es, sum_by-cons f e.0 (map (λ g. g.0) (filter p es))) in
        ap (λ l. sum_by f (map (λ g. g.0) l)) kept ∙ total
    by false h rest =
        let left : filter p (e ∷ es) ≡ filter p es = rw h refl in
        let here : counted e ≡ 0 = rw h refl in
        let total : sum_by f (map (λ g. g.0) (filter p es)) ≡ sum_by counted (e ∷ es) =
        omega (arith, rest, here, sum_by-cons counted e es) in
        ap (λ l. sum_by f (map (λ g. g.0) l)) left ∙ total

pub sorted_numbers : {X : Type 0} (p : ℕ × X → Bool) (es : List (ℕ × X)) (sorted : List ℕ) → IsDistinct nat_eq (keys_of es)
    → IsPermutation (map (λ e. e.0) (filter p es)) sorted → IsSortedBy below sorted
    → sorted ≡ map (λ e. e.0) (filter p (map_of es))
sorted_numbers p es sorted once moved up =
    same_sorted below below_orders (λ x y h k. let e = sym (below-is x y) ∙ h in let f = sym (below-is y x) ∙ k in grind (arith, nat_tests, e, f))
    sorted (map (λ e. e.0) (filter p (map_of es)))
    (λ i j d h k. sorted_far below below_orders sorted up i j d (omega arith) k)
    (numbers_rise (filter p (map_of es)) (AllPairs-filter (λ a b. a.0 < b.0) p (map_of es) (AllPairs-from_rises 0 (map_of es) (rises-map_of es))))
    (λ f. sum_by-IsPermutation f (map (λ e. e.0) (filter p es)) sorted moved
    ∙ sum_by-passed p f es ∙ sym (sum_by-map_of (λ e. cond (p e) (f e.0) 0) es once) ∙ sym (sum_by-passed p f (map_of es)))
