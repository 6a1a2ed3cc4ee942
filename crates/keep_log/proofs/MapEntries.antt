-- A map of the standard library, the entries of which rise by number, is a map of the definitions.
use Rattle.std.proofs.Common.{◌≡◌, ℕ, ◌+◌, Bool, true, false, cond, ◌&&◌, List, [], ◌∷◌, Some, map, refl, sym, ap, ◌∙◌, arith}
use Rattle.std.specs.Prelude.{◌==◌, nat_lt, nat_le}
use Rattle.std.specs.BTreeMap.{insert_entry, is_at}
use Rattle.std.specs.Map.{lookup, set_value}
use Rattle.std.specs.Ordering.{nat_cmp}
use Rattle.std.proofs.lemmas.Bool.Decides.{nat_tests}
use Rattle.fabric_lemmas.specs.Maps.{at, put, rises_from, rises}
use Rattle.fabric_lemmas.proofs.Maps.{at-put, rises-put}
use Rattle.fabric_lemmas.proofs.SameMaps.{same_maps}

same_key : (k n : ℕ) → is_at (nat_cmp k) n ≡ (n == k)
same_key k n = by (nat_lt k n) refl (k == n) refl
  where
    by : (lt : Bool) → nat_lt k n ≡ lt → (same : Bool) → (k == n) ≡ same → is_at (nat_cmp k) n ≡ (n == k)
    by true f same g = let other : (n == k) ≡ false = grind (arith, nat_tests, f) in rw (f, other) refl
    by false f true g = let here : (n == k) ≡ true = grind (arith, nat_tests, g) in rw (f, g, here) refl
    by false f false g = let other : (n == k) ≡ false = grind (arith, nat_tests, g) in rw (f, g, other) refl

module _ {X : Type 0} where
  pub lookup-is : (k : ℕ) (es : List (ℕ × X)) → lookup (is_at (nat_cmp k)) es ≡ at k es
  lookup-is k [] = refl
  lookup-is k (e ∷ es) = rw (same_key k e.0) (ap (λ o. cond (e.0 == k) (Some e.1) o) (lookup-is k es))

  pub insert-is : (k : ℕ) (x : X) (es : List (ℕ × X)) → insert_entry nat_cmp es k x ≡ put k x es
  insert-is k x [] = refl
  insert-is k x (e ∷ es) = by (nat_lt k e.0) refl (k == e.0) refl (insert-is k x es)
    where
      by : (lt : Bool) → nat_lt k e.0 ≡ lt → (same : Bool) → (k == e.0) ≡ same → insert_entry nat_cmp es k x ≡ put k x es
          → insert_entry nat_cmp (e ∷ es) k x ≡ put k x (e ∷ es)
      by true f same g rest = rw f refl
      by false f true g rest = let here : e.0 ≡ k = grind (arith, nat_tests, g) in rw (f, g) (ap (λ n. (n, x) ∷ es) here)
      by false f false g rest = rw (f, g) (ap (λ l. e ∷ l) rest)

  -- a value that is written at a number stands there, and all others stay
  at-set : (k : ℕ) (w : X) (es : List (ℕ × X)) (x : X) → at k es ≡ Some x → (q : ℕ)
      → at q (set_value (is_at (nat_cmp k)) es w) ≡ cond (k == q) (Some w) (at q es)
  at-set k w [] x there q = absurd (cc)
  at-set k w (e ∷ es) x there q = by (e.0 == k) refl (k == q) refl (e.0 == q) refl there (λ h. at-set k w es x h q)
    where
      by : (same : Bool) → (e.0 == k) ≡ same → (asked : Bool) → (k == q) ≡ asked → (here : Bool) → (e.0 == q) ≡ here → at k (e ∷ es) ≡ Some x
          → (at k es ≡ Some x → at q (set_value (is_at (nat_cmp k)) es w) ≡ cond (k == q) (Some w) (at q es))
          → at q (set_value (is_at (nat_cmp k)) (e ∷ es) w) ≡ cond (k == q) (Some w) (at q (e ∷ es))
      by true f true g true h there rest = rw (same_key k e.0, f, g, h) refl
      by true f false g false h there rest = rw (same_key k e.0, f, g, h) refl
      by true f true g false h there rest = absurd (grind (arith, nat_tests, f, g, h))
      by true f false g true h there rest = absurd (grind (arith, nat_tests, f, g, h))
      by false f true g true h there rest = absurd (grind (arith, nat_tests, f, g, h))
      by false f true g false h there rest = let again = rest (rw f at there) in rw (same_key k e.0, f, g, h) (rw g at again)
      by false f false g true h there rest = rw (same_key k e.0, f, g, h) refl
      by false f false g false h there rest = let again = rest (rw f at there) in rw (same_key k e.0, f, g, h) (rw g at again)

  pub rises_from-set : (low k : ℕ) (w : X) (es : List (ℕ × X)) → rises_from low (set_value (is_at (nat_cmp k)) es w) ≡ rises_from low es
  rises_from-set low k w [] = refl
  rises_from-set low k w (e ∷ es) = by (e.0 == k) refl (rises_from-set (e.0 + 1) k w es)
    where
      by : (same : Bool) → (e.0 == k) ≡ same → rises_from (e.0 + 1) (set_value (is_at (nat_cmp k)) es w) ≡ rises_from (e.0 + 1) es
          → rises_from low (set_value (is_at (nat_cmp k)) (e ∷ es) w) ≡ rises_from low (e ∷ es)
      by true f rest = rw (same_key k e.0, f) refl
      by false f rest = rw (same_key k e.0, f) (ap (λ b. nat_le low e.0 && b) rest)

  pub set-is : (k : ℕ) (w : X) (es : List (ℕ × X)) (x : X) → rises es ≡ true → at k es ≡ Some x
      → set_value (is_at (nat_cmp k)) es w ≡ put k w es
  set-is k w es x up there =
      same_maps (set_value (is_at (nat_cmp k)) es w) (put k w es) (rises_from-set 0 k w es ∙ up) (rises-put k w es up)
      (λ q. at-set k w es x there q ∙ sym (at-put k w es q))

  pub put-put : (k : ℕ) (x y : X) (es : List (ℕ × X)) → rises es ≡ true → put k y (put k x es) ≡ put k y es
  put-put k x y es up =
      same_maps (put k y (put k x es)) (put k y es) (rises-put k y (put k x es) (rises-put k x es up)) (rises-put k y es up)
      (λ q. at-put k y (put k x es) q ∙ over q (k == q) (at-put k x es q) ∙ sym (at-put k y es q))
    where
      over : (q : ℕ) (b : Bool) → at q (put k x es) ≡ cond b (Some x) (at q es) → cond b (Some y) (at q (put k x es)) ≡ cond b (Some y) (at q es)
      over q true e = refl
      over q false e = e

  pub rises-mapped : (g : X → X) (low : ℕ) (es : List (ℕ × X)) → rises_from low (map (λ e. (e.0, g e.1)) es) ≡ rises_from low es
  rises-mapped g low [] = refl
  rises-mapped g low (e ∷ es) = ap (λ b. nat_le low e.0 && b) (rises-mapped g (e.0 + 1) es)

  pub at-put_here : (k : ℕ) (x : X) (es : List (ℕ × X)) → at k (put k x es) ≡ Some x
  at-put_here k x es = at-put k x es k ∙ (let same : (k == k) ≡ true = grind (arith, nat_tests) in rw same refl)
