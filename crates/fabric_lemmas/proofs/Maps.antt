-- What stands in a map after a change, and that its numbers go on rising.
use Rattle.std.proofs.Common.{◌≡◌, ℕ, ◌+◌, ◌≤◌, Bool, true, false, cond, ◌&&◌, List, [], ◌∷◌, Option, Some, None, refl, sym, ap, ◌∙◌, arith}
use Rattle.std.specs.Prelude.{◌==◌, nat_lt, nat_le, not}
use Rattle.std.proofs.lemmas.Bool.{and_parts, and_from}
use Rattle.std.proofs.lemmas.Bool.Decides.{nat_tests}
use Rattle.fabric_lemmas.specs.Maps.{at, put, put_here, without, rises_from, rises}

module _ {X : Type 0} where
  -- two choices by tests of which the first decides the second
  same_choice : (a b : Bool) (x y z : Option X) → (a ≡ true → b ≡ false) → cond a x (cond b y z) ≡ cond b y (cond a x z)
  same_choice true true x y z apart = absurd (cc (apart refl))
  same_choice true false x y z apart = refl
  same_choice false true x y z apart = refl
  same_choice false false x y z apart = refl

  over_choice : (a b : Bool) (x y z : Option X) → a ≡ b → cond a x (cond b y z) ≡ cond a x z
  over_choice true true x y z e = refl
  over_choice true false x y z e = refl
  over_choice false true x y z e = absurd (cc)
  over_choice false false x y z e = refl

  -- what is put at a number is there, and all others stay
  pub at-put : (k : ℕ) (x : X) (es : List (ℕ × X)) (q : ℕ) → at q (put k x es) ≡ cond (k == q) (Some x) (at q es)
  at-put k x [] q = refl
  at-put k x (e ∷ es) q = placed (nat_lt k e.0) (k == e.0) refl (at-put k x es q)
    where
      placed : (lt same : Bool) → (k == e.0) ≡ same → at q (put k x es) ≡ cond (k == q) (Some x) (at q es)
          → at q (put_here k x e es (put k x es) lt same) ≡ cond (k == q) (Some x) (at q (e ∷ es))
      placed true same h again = refl
      placed false true h again = sym (over_choice (k == q) (e.0 == q) (Some x) (Some e.1) (at q es) (grind (arith, nat_tests)))
      placed false false h again =
          ap (λ o. cond (e.0 == q) (Some e.1) o) again
          ∙ sym (same_choice (k == q) (e.0 == q) (Some x) (Some e.1) (at q es) (λ f. grind (arith, nat_tests)))

  -- nothing is at the number that is taken out, and all others stay
  pub at-without : (k : ℕ) (es : List (ℕ × X)) (q : ℕ) → at q (without k es) ≡ cond (k == q) None (at q es)
  at-without k [] q = elim (k == q) as (λ b. ◌≡◌ {A = Option X} None (cond b None None)) [ true ↦ refl | false ↦ refl ]
  at-without k (e ∷ es) q = kept (e.0 == k) refl (at-without k es q)
    where
      kept : (same : Bool) → (e.0 == k) ≡ same → at q (without k es) ≡ cond (k == q) None (at q es)
          → at q (cond (not same) (e ∷ without k es) (without k es)) ≡ cond (k == q) None (at q (e ∷ es))
      kept true h again = again ∙ sym (over_choice (k == q) (e.0 == q) None (Some e.1) (at q es) (grind (arith, nat_tests)))
      kept false h again =
          ap (λ o. cond (e.0 == q) (Some e.1) o) again
          ∙ sym (same_choice (k == q) (e.0 == q) None (Some e.1) (at q es) (λ f. grind (arith, nat_tests)))

  -- the numbers go on rising

  pub rises_from-lower : (low lower : ℕ) (es : List (ℕ × X)) → lower ≤ low → rises_from low es ≡ true → rises_from lower es ≡ true
  rises_from-lower low lower [] le h = refl
  rises_from-lower low lower (e ∷ es) le h =
      let parts : (nat_le low e.0 ≡ true) × (rises_from (e.0 + 1) es ≡ true) = and_parts (nat_le low e.0) (rises_from (e.0 + 1) es) h in
      and_from (nat_le lower e.0) (rises_from (e.0 + 1) es) (grind (arith, nat_tests, parts.0)) parts.1

  pub rises_from-put : (low k : ℕ) (x : X) (es : List (ℕ × X)) → low ≤ k → rises_from low es ≡ true → rises_from low (put k x es) ≡ true
  rises_from-put low k x [] le h = and_from (nat_le low k) true (grind (arith, nat_tests)) refl
  rises_from-put low k x (e ∷ es) le h = placed (nat_lt k e.0) refl (k == e.0) refl (λ more. rises_from-put (e.0 + 1) k x es more parts.1)
    where
      parts : (nat_le low e.0 ≡ true) × (rises_from (e.0 + 1) es ≡ true)
      parts = and_parts (nat_le low e.0) (rises_from (e.0 + 1) es) h

      placed : (lt : Bool) → nat_lt k e.0 ≡ lt → (same : Bool) → (k == e.0) ≡ same → (e.0 + 1 ≤ k → rises_from (e.0 + 1) (put k x es) ≡ true)
          → rises_from low (put_here k x e es (put k x es) lt same) ≡ true
      placed true f same g again = and_from (nat_le low k) (nat_le (k + 1) e.0 && rises_from (e.0 + 1) es) (grind (arith, nat_tests)) (and_from (nat_le (k + 1) e.0) (rises_from (e.0 + 1) es) (grind (arith, nat_tests)) parts.1)
      placed false f true g again = and_from (nat_le low k) (rises_from (k + 1) es) (grind (arith, nat_tests)) (rises_from-lower (e.0 + 1) (k + 1) es (grind (arith, nat_tests)) parts.1)
      placed false f false g again = and_from (nat_le low e.0) (rises_from (e.0 + 1) (put k x es)) parts.0 (again (grind (arith, nat_tests)))

  pub rises_from-without : (low k : ℕ) (es : List (ℕ × X)) → rises_from low es ≡ true → rises_from low (without k es) ≡ true
  rises_from-without low k [] h = refl
  rises_from-without low k (e ∷ es) h =
      let parts : (nat_le low e.0 ≡ true) × (rises_from (e.0 + 1) es ≡ true) = and_parts (nat_le low e.0) (rises_from (e.0 + 1) es) h in
      kept (e.0 == k) parts.0 (rises_from-without (e.0 + 1) k es parts.1)
    where
      kept : (same : Bool) → nat_le low e.0 ≡ true → rises_from (e.0 + 1) (without k es) ≡ true → rises_from low (cond (not same) (e ∷ without k es) (without k es)) ≡ true
      kept true here behind = rises_from-lower (e.0 + 1) low (without k es) (grind (arith, nat_tests, here)) behind
      kept false here behind = and_from (nat_le low e.0) (rises_from (e.0 + 1) (without k es)) here behind

  pub rises-put : (k : ℕ) (x : X) (es : List (ℕ × X)) → rises es ≡ true → rises (put k x es) ≡ true
  rises-put k x es h = rises_from-put 0 k x es (omega arith) h

  pub rises-without : (k : ℕ) (es : List (ℕ × X)) → rises es ≡ true → rises (without k es) ≡ true
  rises-without k es h = rises_from-without 0 k es h
