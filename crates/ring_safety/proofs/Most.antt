-- More than half of the configured arbitrators are a majority of the machine's.
use Rattle.std.proofs.Common.{◌≡◌, ℕ, suc, ◌+◌, ◌*◌, Bool, true, false, cond, List, [], ◌∷◌, length, Some, refl, sym, ap, ◌∙◌, arith}
use Rattle.std.specs.Prelude.{count_by, nat_lt, slice_get}
use Rattle.std.proofs.lemmas.List.Sums.{sum_by-cons}
use Rattle.fabric_terms.specs.declared.config.FabricConfig.{FabricConfig}
use Rattle.fabric_terms.specs.Sound.{IsSound}
use Rattle.ring_machine.specs.Arbitration.{count_to, is_majority}
use Rattle.ring_refinement.specs.Images.{machine_of}
use Rattle.run_promises.specs.Arbitrators.{most_arbitrators}

-- those of a list that is numbered from here on pass beside those before
counted : (by : ℕ → Bool) (before : ℕ) (xs : List (ℕ × List ℕ)) → ((k : ℕ) (x : ℕ × List ℕ) → slice_get xs k ≡ Some x → x.0 ≡ before + k + 1) →
    count_to by (before + length xs) ≡ count_to by before + count_by (λ x. by x.0) xs
counted by before [] order = let e : before + 0 ≡ before = omega arith in ap (count_to by) e ∙ (let e : count_to by before ≡ count_to by before + 0 = omega arith in e)
counted by before (x ∷ xs) order =
    let number : x.0 ≡ suc before = order 0 x refl ∙ (let e : before + 0 + 1 ≡ suc before = omega arith in e) in
    let place : before + length (x ∷ xs) ≡ suc before + length xs = omega arith in
    let rest = counted by (suc before) xs (λ k y at. order (suc k) y at ∙ (let e : before + suc k + 1 ≡ suc before + k + 1 = omega arith in e)) in
    let more : count_by (λ y. by y.0) (x ∷ xs) ≡ cond (by x.0) 1 0 + count_by (λ y. by y.0) xs = sum_by-cons (λ (y : ℕ × List ℕ). cond (by y.0) 1 0) x xs in
    ap (count_to by) place ∙ (rest ∙ (one (by (suc before)) (by x.0) (ap by (sym number)) ∙ ap (λ n. count_to by before + n) (sym more)))
  where
    one : (a b : Bool) → a ≡ b → cond a (suc (count_to by before)) (count_to by before) + count_by (λ y. by y.0) xs
        ≡ count_to by before + (cond b 1 0 + count_by (λ y. by y.0) xs)
    one true true e = omega arith
    one false false e = omega arith
    one true false e = absurd (cc (e))
    one false true e = absurd (cc (e))

pub most_is : (c : FabricConfig) → IsSound c → (by : ℕ → Bool) → is_majority (machine_of c) by ≡ most_arbitrators c by
most_is c sound by =
    let k : ℕ = length c.arbiters in
    let number : (place : ℕ) (x : ℕ × List ℕ) → slice_get c.arbiters place ≡ Some x → x.0 ≡ 0 + place + 1 =
    λ place x at. sound.arbiters_in_order place x at ∙ (let e : place + 1 ≡ 0 + place + 1 = omega arith in e) in
    let all : count_to by (0 + k) ≡ 0 + count_by (λ x. by x.0) c.arbiters = counted by 0 c.arbiters number in
    let double : count_to by k + count_to by k ≡ 2 * count_by (λ x. by x.0) c.arbiters = omega (arith, (ap (count_to by) (let e : k ≡ 0 + k = omega arith in e) ∙ all)) in
    ap (nat_lt k) double
