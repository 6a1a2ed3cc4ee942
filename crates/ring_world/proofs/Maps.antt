-- Lists that rise by number: what stands at a place is what is at its number, and changes by number are changes at places.
use Rattle.std.proofs.Common.{◌≡◌, ℕ, zero, suc, ◌+◌, ◌≤◌, ◌<◌, Bool, true, false, cond, List, [], ◌∷◌, Some, None, refl, sym, ap, ◌∙◌, arith}
use Rattle.std.specs.Prelude.{◌==◌, nat_lt, nat_le, slice_get, slice_set, insert, remove}
use Rattle.std.proofs.lemmas.Bool.{and_parts, leb-true}
use Rattle.std.proofs.lemmas.Bool.Decides.{nat_tests}
use Rattle.fabric_lemmas.specs.Maps.{at, put, put_here, without, rises_from, rises}
use Rattle.ring_world.specs.Finds.{IsAt}

pub unequal : (a b : ℕ) → (a ≡ b → ⊥) → (a == b) ≡ false
unequal a b h = grind (arith, nat_tests)

pub equal : (a : ℕ) → (a == a) ≡ true
equal a = grind (arith, nat_tests)

pub not_below : (a b : ℕ) → b ≤ a → nat_lt a b ≡ false
not_below a b h = grind (arith, nat_tests)

pub below : (a b : ℕ) → a < b → nat_lt a b ≡ true
below a b h = grind (arith, nat_tests)

-- the place of the first greater number, or that behind all
abbrev pub place_in : {X : Type 0} → ℕ → List (ℕ × X) → ℕ
place_in k [] = 0
place_in k (e ∷ es) = cond (nat_lt k e.0) 0 (1 + place_in k es)

module _ {X : Type 0} where
  -- no number of the list is below the first
  pub number_above : (low : ℕ) (es : List (ℕ × X)) (i k : ℕ) (x : X) → rises_from low es ≡ true → slice_get es i ≡ Some (k, x) → low ≤ k
  number_above low [] i k x h e = absurd (cc)
  number_above low (q ∷ es) zero k x h e =
      let parts = and_parts (nat_le low q.0) (rises_from (q.0 + 1) es) h in
      let le = leb-true low q.0 parts.0 in
      let same : q.0 ≡ k = cc in
      omega arith
  number_above low (q ∷ es) (suc i) k x h e =
      let parts = and_parts (nat_le low q.0) (rises_from (q.0 + 1) es) h in
      let le = leb-true low q.0 parts.0 in
      let more = number_above (q.0 + 1) es i k x parts.1 e in
      omega arith

  pub at_place : (low : ℕ) (es : List (ℕ × X)) (i k : ℕ) (x : X) → rises_from low es ≡ true → slice_get es i ≡ Some (k, x) → at k es ≡ Some x
  at_place low [] i k x h e = absurd (cc)
  at_place low (q ∷ es) zero k x h e =
      let same : q.0 ≡ k = cc in
      let value : q.1 ≡ x = cc in
      let test : (q.0 == k) ≡ true = ap (λ n. n == k) same ∙ equal k in
      rw test (ap (λ v. Some v) value)
  at_place low (q ∷ es) (suc i) k x h e =
      let parts = and_parts (nat_le low q.0) (rises_from (q.0 + 1) es) h in
      let more = number_above (q.0 + 1) es i k x parts.1 e in
      rw (unequal q.0 k (λ s. omega arith)) (at_place (q.0 + 1) es i k x parts.1 e)

  pub put_place : (low : ℕ) (es : List (ℕ × X)) (i k : ℕ) (x y : X) → rises_from low es ≡ true → slice_get es i ≡ Some (k, x) → put k y es ≡ slice_set es i (k, y)
  put_place low [] i k x y h e = absurd (cc)
  put_place low (q ∷ es) zero k x y h e =
      let same : k ≡ q.0 = cc in
      rw (not_below k q.0 (omega arith), ap (λ n. k == n) (sym same) ∙ equal k) refl
  put_place low (q ∷ es) (suc i) k x y h e =
      let parts = and_parts (nat_le low q.0) (rises_from (q.0 + 1) es) h in
      let more = number_above (q.0 + 1) es i k x parts.1 e in
      rw (not_below k q.0 (omega arith), unequal k q.0 (λ s. omega arith)) (ap (λ r. q ∷ r) (put_place (q.0 + 1) es i k x y parts.1 e))

  -- nothing is taken out where no number is so low
  without_below : (low k : ℕ) (es : List (ℕ × X)) → rises_from low es ≡ true → k < low → without k es ≡ es
  without_below low k [] h lt = refl
  without_below low k (q ∷ es) h lt =
      let parts = and_parts (nat_le low q.0) (rises_from (q.0 + 1) es) h in
      let le = leb-true low q.0 parts.0 in
      rw (unequal q.0 k (λ s. omega arith)) (ap (λ r. q ∷ r) (without_below (q.0 + 1) k es parts.1 (omega arith)))

  pub without_place : (low : ℕ) (es : List (ℕ × X)) (i k : ℕ) (x : X) → rises_from low es ≡ true → slice_get es i ≡ Some (k, x) → without k es ≡ remove es i
  without_place low [] i k x h e = absurd (cc)
  without_place low (q ∷ es) zero k x h e =
      let parts = and_parts (nat_le low q.0) (rises_from (q.0 + 1) es) h in
      let same : q.0 ≡ k = cc in
      let test : (q.0 == k) ≡ true = ap (λ n. n == k) same ∙ equal k in
      rw test (without_below (q.0 + 1) k es parts.1 (omega arith))
  without_place low (q ∷ es) (suc i) k x h e =
      let parts = and_parts (nat_le low q.0) (rises_from (q.0 + 1) es) h in
      let more = number_above (q.0 + 1) es i k x parts.1 e in
      rw (unequal q.0 k (λ s. omega arith)) (ap (λ r. q ∷ r) (without_place (q.0 + 1) es i k x parts.1 e))

  pub put_new : (k : ℕ) (y : X) (es : List (ℕ × X)) → at k es ≡ None → put k y es ≡ insert es (place_in k es) (k, y)
  put_new k y [] h = refl
  put_new k y (q ∷ es) h = by_test (q.0 == k) refl h (nat_lt k q.0) refl (put_new k y es)
    where
      by_test : (s : Bool) → (q.0 == k) ≡ s → cond s (Some q.1) (at k es) ≡ None → (b : Bool) → nat_lt k q.0 ≡ b
          → (at k es ≡ None → put k y es ≡ insert es (place_in k es) (k, y))
          → put_here k y q es (put k y es) b (k == q.0) ≡ insert (q ∷ es) (cond b 0 (1 + place_in k es)) (k, y)
      by_test true s none b t again = absurd (cc)
      by_test false s none true t again = refl
      by_test false s none false t again =
          rw (unequal k q.0 (λ e. grind (arith, nat_tests))) (ap (λ r. q ∷ r) (again none) ∙ inserted (place_in k es))
        where
          inserted : (n : ℕ) → q ∷ insert es n (k, y) ≡ insert (q ∷ es) (1 + n) (k, y)
          inserted n = let e : 1 + n ≡ suc n = omega arith in rw e refl

  -- the number of a place
  pub is_at : (es : List (ℕ × X)) (i k : ℕ) (x : X) → rises es ≡ true → slice_get es i ≡ Some (k, x) → IsAt k i es
  is_at es i k x h e = record { value = x; here = e; found = at_place 0 es i k x h e }
