-- Two maps in which the same stands at each number are the same.
use Rattle.std.proofs.Common.{◌≡◌, ℕ, ◌+◌, ◌<◌, ◌≤◌, Bool, true, false, cond, List, [], ◌∷◌, Some, None, refl, sym, ap, ◌∙◌, arith}
use Rattle.std.specs.Prelude.{◌==◌, nat_lt, nat_le}
use Rattle.std.proofs.lemmas.Bool.{and_parts}
use Rattle.std.proofs.lemmas.Bool.Decides.{nat_tests}
use Rattle.std.proofs.lemmas.Option.{same_Some}
use Rattle.fabric_lemmas.specs.Maps.{at, rises_from, rises}

-- nothing stands below the first number
pub at-below : {X : Type 0} (low : ℕ) (es : List (ℕ × X)) (k : ℕ) → k < low → rises_from low es ≡ true → at k es ≡ None
at-below low [] k below up = refl
at-below {X = X} low (e ∷ es) k below up =
    let parts : (nat_le low e.0 ≡ true) × (rises_from (e.0 + 1) es ≡ true) = and_parts (nat_le low e.0) (rises_from (e.0 + 1) es) up in
    let first : low ≤ e.0 = grind (arith, nat_tests, parts.0) in
    let other : (e.0 == k) ≡ false = grind (arith, nat_tests, first) in
    rw other (at-below (e.0 + 1) es k (omega arith) parts.1)

at-first : {X : Type 0} (e : ℕ × X) (es : List (ℕ × X)) → at e.0 (e ∷ es) ≡ Some e.1
at-first e es = let same : (e.0 == e.0) ≡ true = grind (arith, nat_tests) in rw same refl

-- the first entries have the same number
not_before : {X : Type 0} (e f : ℕ × X) (es fs : List (ℕ × X)) → rises_from (f.0 + 1) fs ≡ true
    → ((k : ℕ) → at k (e ∷ es) ≡ at k (f ∷ fs)) → nat_lt e.0 f.0 ≡ false
not_before {X = X} e f es fs up same = by (nat_lt e.0 f.0) refl
  where
    by : (b : Bool) → nat_lt e.0 f.0 ≡ b → nat_lt e.0 f.0 ≡ false
    by false h = h
    by true h =
        let before : e.0 < f.0 = grind (arith, nat_tests, h) in
        let other : (f.0 == e.0) ≡ false = grind (arith, nat_tests, before) in
        let none : at e.0 (f ∷ fs) ≡ None = rw other (at-below (f.0 + 1) fs e.0 (omega arith) up) in
        let some : Some e.1 ≡ None = sym (at-first e es) ∙ same e.0 ∙ none in
        absurd (cc)

same_from : {X : Type 0} (low : ℕ) (es fs : List (ℕ × X)) → rises_from low es ≡ true → rises_from low fs ≡ true
    → ((k : ℕ) → at k es ≡ at k fs) → es ≡ fs
same_from low [] [] up up' same = refl
same_from low (e ∷ es) [] up up' same = let some : Some e.1 ≡ None = sym (at-first e es) ∙ same e.0 in absurd (cc)
same_from low [] (f ∷ fs) up up' same = let some : Some f.1 ≡ None = sym (at-first f fs) ∙ sym (same f.0) in absurd (cc)
same_from {X = X} low (e ∷ es) (f ∷ fs) up up' same =
    let p : (nat_le low e.0 ≡ true) × (rises_from (e.0 + 1) es ≡ true) = and_parts (nat_le low e.0) (rises_from (e.0 + 1) es) up in
    let q : (nat_le low f.0 ≡ true) × (rises_from (f.0 + 1) fs ≡ true) = and_parts (nat_le low f.0) (rises_from (f.0 + 1) fs) up' in
    let here : e.0 ≡ f.0 = grind (arith, nat_tests, not_before e f es fs q.1 same, not_before f e fs es p.1 (λ k. sym (same k))) in
    let value : Some e.1 ≡ Some f.1 = sym (at-first e es) ∙ same e.0 ∙ ap (λ k. at k (f ∷ fs)) here ∙ at-first f fs in
    let up'' : rises_from (e.0 + 1) fs ≡ true = rw here q.1 in
    let rest : es ≡ fs = same_from (e.0 + 1) es fs p.1 up'' (λ k. behind k (nat_lt e.0 k) refl p.1 up'' here) in
    let inner : e.1 ≡ f.1 = same_Some e.1 f.1 value in
    λ i. (here i, inner i) ∷ rest i
  where
    behind : (k : ℕ) (b : Bool) → nat_lt e.0 k ≡ b → rises_from (e.0 + 1) es ≡ true → rises_from (e.0 + 1) fs ≡ true → e.0 ≡ f.0 → at k es ≡ at k fs
    behind k true h p q here =
        let ne : (e.0 == k) ≡ false = grind (arith, nat_tests, h) in
        let nf : (f.0 == k) ≡ false = grind (arith, nat_tests, h, here) in
        let both : cond (e.0 == k) (Some e.1) (at k es) ≡ cond (f.0 == k) (Some f.1) (at k fs) = same k in
        rw (ne, nf) at both
    behind k false h p q here =
        let below : k < e.0 + 1 = grind (arith, nat_tests, h) in
        at-below (e.0 + 1) es k below p ∙ sym (at-below (e.0 + 1) fs k below q)

pub same_maps : {X : Type 0} (es fs : List (ℕ × X)) → rises es ≡ true → rises fs ≡ true
    → ((k : ℕ) → at k es ≡ at k fs) → es ≡ fs
same_maps es fs up up' same = same_from 0 es fs up up' same
