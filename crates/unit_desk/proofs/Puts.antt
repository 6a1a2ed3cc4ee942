-- How many entries a map has, once something is put in it or taken out.
use Rattle.std.proofs.Common.{◌≡◌, ℕ, suc, ◌+◌, ◌<◌, ◌≤◌, Bool, true, false, cond, List, [], ◌∷◌, filter, length, nat_lt, Option, Some, None, refl, arith}
use Rattle.std.proofs.lemmas.Bool.Decides.{nat_tests}
use Rattle.std.proofs.lemmas.List.Sums.{count_by-le-length, length-filter}
use Rattle.std.specs.Prelude.{◌==◌}
use Rattle.fabric_lemmas.specs.Maps.{at, put, put_here}

pub fewer_kept : {X : Type 0} (test : X → Bool) (xs : List X) → length (filter test xs) ≤ length xs
fewer_kept test xs =
    let few = count_by-le-length test xs in
    let many = length-filter test xs in
    omega (arith, few, many)

module _ {X : Type 0} (k : ℕ) where
  -- a number that is free among entries is not the first one's, and is free among the others
  pub free_behind : (e : ℕ × X) (es : List (ℕ × X)) → at k (e ∷ es) ≡ None → ((e.0 == k) ≡ false) × (at k es ≡ None)
  free_behind e es free = by (e.0 == k) refl free
    where
      by : (b : Bool) → (e.0 == k) ≡ b → ◌≡◌ {A = Option X} (cond b (Some e.1) (at k es)) None → ((e.0 == k) ≡ false) × (at k es ≡ None)
      by true is free = absurd (cc)
      by false is free = (is, free)

  put_few : (x : X) (e : ℕ × X) (es behind : List (ℕ × X)) (lt same : Bool) → length behind ≤ length es + 1 → length (put_here k x e es behind lt same) ≤ length es + 2
  put_few x e es behind true same few = omega arith
  put_few x e es behind false true few = omega arith
  put_few x e es behind false false few = omega (arith, few)

  -- at most one entry more
  pub length-put : (x : X) (es : List (ℕ × X)) → length (put k x es) ≤ length es + 1
  length-put x [] = omega arith
  length-put x (e ∷ es) =
      let few = put_few x e es (put k x es) (nat_lt k e.0) (k == e.0) (length-put x es) in
      omega (arith, few)

  -- one entry more, where the number is free
  pub one_more : (x : X) (es : List (ℕ × X)) → at k es ≡ None → length es < length (put k x es)
  one_more x [] free = omega arith
  one_more x (e ∷ es) free =
      let behind : ((e.0 == k) ≡ false) × (at k es ≡ None) = free_behind e es free in
      by (nat_lt k e.0) (k == e.0) refl behind.0 (one_more x es behind.1)
    where
      by : (lt same : Bool) → (k == e.0) ≡ same → (e.0 == k) ≡ false → length es < length (put k x es)
          → suc (length es) < length (put_here k x e es (put k x es) lt same)
      by true same is other more = omega arith
      by false true is other more = absurd (grind (arith, nat_tests, is, other))
      by false false is other more = omega (arith, more)
