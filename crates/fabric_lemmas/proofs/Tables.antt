-- A table in order of insertion, as an `IndexMap` keeps it, is a map.
use Rattle.std.proofs.Common.{◌≡◌, ℕ, ◌+◌, Bool, true, false, cond, List, [], ◌∷◌, length, Some, None, refl, ap, sym, ◌∙◌, arith, sum_by}
use Rattle.std.specs.Prelude.{◌==◌, nat_lt, nat_eq}
use Rattle.std.proofs.lemmas.Bool.Decides.{nat_tests}
use Rattle.std.proofs.lemmas.List.Sums.{sum_by-cons}
use Rattle.std.specs.List.{IsDistinct, AllByRecursion}
use Rattle.std.specs.Map.{lookup, keys_of}
use Rattle.std.proofs.lemmas.Map.Keys.{IsDistinct-head, IsDistinct-tail}
use Rattle.indexmap.specs.IndexMap.{insert_entry}
use Rattle.fabric_lemmas.specs.Maps.{at, put, put_here, rises, map_of}
use Rattle.fabric_lemmas.proofs.Maps.{at-put, rises-put}
use Rattle.fabric_lemmas.proofs.SameMaps.{same_maps}

pub rises-map_of : {X : Type 0} (es : List (ℕ × X)) → rises (map_of es) ≡ true
rises-map_of [] = refl
rises-map_of (e ∷ es) = rises-put e.0 e.1 (map_of es) (rises-map_of es)

pub at-map_of : {X : Type 0} (es : List (ℕ × X)) (k : ℕ) → at k (map_of es) ≡ at k es
at-map_of [] k = refl
at-map_of (e ∷ es) k = at-put e.0 e.1 (map_of es) k ∙ ap (λ o. cond (e.0 == k) (Some e.1) o) (at-map_of es k)

pub at-insert_entry : {X : Type 0} (es : List (ℕ × X)) (k : ℕ) (x : X) (q : ℕ)
    → at q (insert_entry nat_eq es k x) ≡ cond (k == q) (Some x) (at q es)
at-insert_entry [] k x q = refl
at-insert_entry {X = X} (e ∷ es) k x q = by (k == e.0) refl (e.0 == q) refl (at-insert_entry es k x q)
  where
    by : (b : Bool) → (k == e.0) ≡ b → (c : Bool) → (e.0 == q) ≡ c
        → at q (insert_entry nat_eq es k x) ≡ cond (k == q) (Some x) (at q es)
        → at q (insert_entry nat_eq (e ∷ es) k x) ≡ cond (k == q) (Some x) (at q (e ∷ es))
    by true f true g rest = let here : (k == q) ≡ true = grind (arith, nat_tests, f, g) in rw (f, g, here) refl
    by true f false g rest = let other : (k == q) ≡ false = grind (arith, nat_tests, f, g) in rw (f, g, other) refl
    by false f true g rest = let other : (k == q) ≡ false = grind (arith, nat_tests, f, g) in rw (f, g, other) refl
    by false f false g rest = rw (f, g) rest

-- what is inserted is put
pub map_of-insert_entry : {X : Type 0} (es : List (ℕ × X)) (k : ℕ) (x : X)
    → map_of (insert_entry nat_eq es k x) ≡ put k x (map_of es)
map_of-insert_entry es k x =
    same_maps (map_of (insert_entry nat_eq es k x)) (put k x (map_of es))
    (rises-map_of (insert_entry nat_eq es k x)) (rises-put k x (map_of es) (rises-map_of es))
    (λ q. at-map_of (insert_entry nat_eq es k x) q ∙ at-insert_entry es k x q
    ∙ sym (at-put k x (map_of es) q ∙ ap (λ o. cond (k == q) (Some x) o) (at-map_of es q)))

same_test : (m n : ℕ) → nat_eq m n ≡ (n == m)
same_test m n = by (n == m) refl
  where
    by : (b : Bool) → (n == m) ≡ b → nat_eq m n ≡ (n == m)
    by true e = grind (arith, nat_tests, e)
    by false e = grind (arith, nat_tests, e)

lookup-at : {X : Type 0} (es : List (ℕ × X)) (k : ℕ) → lookup (nat_eq k) es ≡ at k es
lookup-at [] k = refl
lookup-at (e ∷ es) k = rw (same_test k e.0) (ap (λ o. cond (e.0 == k) (Some e.1) o) (lookup-at es k))

-- a look-up in the table
pub lookup-is : {X : Type 0} (es : List (ℕ × X)) (k : ℕ) → lookup (nat_eq k) es ≡ at k (map_of es)
lookup-is es k = lookup-at es k ∙ sym (at-map_of es k)

-- none of the keys is this number
none_at : {X : Type 0} (es : List (ℕ × X)) (k : ℕ) → AllByRecursion (λ y. nat_eq k y ≡ false) (keys_of es) → at k es ≡ None
none_at [] k none = refl
none_at (e ∷ es) k none =
    let other : (e.0 == k) ≡ false = grind (arith, nat_tests, none.0) in
    rw other (none_at es k none.1)

pub sum_by-put : {X : Type 0} (g : ℕ × X → ℕ) (k : ℕ) (x : X) (es : List (ℕ × X)) → at k es ≡ None
    → sum_by g (put k x es) ≡ g (k, x) + sum_by g es
sum_by-put g k x [] new = sum_by-cons g (k, x) []
sum_by-put {X = X} g k x (e ∷ es) new = by (nat_lt k e.0) (k == e.0) refl (sum_by-put g k x es)
  where
    by : (lt same : Bool) → (k == e.0) ≡ same → (at k es ≡ None → sum_by g (put k x es) ≡ g (k, x) + sum_by g es)
        → sum_by g (put_here k x e es (put k x es) lt same) ≡ g (k, x) + sum_by g (e ∷ es)
    by true same f rest = sum_by-cons g (k, x) (e ∷ es)
    by false true f rest =
        let here : (e.0 == k) ≡ true = grind (arith, nat_tests, f) in
        let some : Some e.1 ≡ None = rw here at new in
        absurd (cc)
    by false false f rest =
        let other : (e.0 == k) ≡ false = grind (arith, nat_tests, f) in
        let behind : at k es ≡ None = rw other at new in
        omega (arith, rest behind, sum_by-cons g e (put k x es), sum_by-cons g e es)

-- a sum over the table is the sum over the map
pub sum_by-map_of : {X : Type 0} (g : ℕ × X → ℕ) (es : List (ℕ × X)) → IsDistinct nat_eq (keys_of es) → sum_by g (map_of es) ≡ sum_by g es
sum_by-map_of g [] once = refl
sum_by-map_of g (e ∷ es) once =
    let none : at e.0 (map_of es) ≡ None = at-map_of es e.0 ∙ none_at es e.0 (IsDistinct-head nat_eq e.0 (keys_of es) once) in
    omega (arith, sum_by-put g e.0 e.1 (map_of es) none, sum_by-map_of g es (IsDistinct-tail nat_eq e.0 (keys_of es) once), sum_by-cons g e es)

pub length-sum : {X : Type 0} (xs : List X) → length xs ≡ sum_by (λ _. 1) xs
length-sum [] = refl
length-sum (x ∷ xs) = omega (arith, length-sum xs, sum_by-cons (λ _. 1) x xs)

pub length-map_of : {X : Type 0} (es : List (ℕ × X)) → IsDistinct nat_eq (keys_of es) → length (map_of es) ≡ length es
length-map_of es once = length-sum (map_of es) ∙ sum_by-map_of (λ _. 1) es once ∙ sym (length-sum es)

pub ruleset as_maps = (lookup-is, length-map_of, map_of-insert_entry)

pub ruleset sums = (sum_by-map_of)
