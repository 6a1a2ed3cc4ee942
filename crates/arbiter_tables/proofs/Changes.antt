-- Registers after a change at one partition, and after two.
use Rattle.std.proofs.Common.{◌≡◌, ℕ, Bool, true, false, cond, Some, refl, sym, ap, ◌∙◌, arith}
use Rattle.std.specs.Prelude.{◌==◌, unwrap_or}
use Rattle.std.proofs.lemmas.Bool.Decides.{nat_tests}
use Rattle.fabric_lemmas.specs.Maps.{at, rises}
use Rattle.fabric_lemmas.proofs.Maps.{at-put, rises-put}
use Rattle.fabric_lemmas.proofs.SameMaps.{same_maps}
use Rattle.unit_rules.specs.Registers.{Register, Registers, empty_register, register_of, changed}

pub register_of-changed : (p : ℕ) (f : Register → Register) (rs : Registers) (q : ℕ)
    → register_of q (changed p f rs) ≡ cond (p == q) (f (register_of p rs)) (register_of q rs)
register_of-changed p f rs q =
    ap (λ o. unwrap_or o empty_register) (at-put p (f (register_of p rs)) rs q) ∙ by (p == q)
  where
    by : (b : Bool) → unwrap_or (cond b (Some (f (register_of p rs))) (at q rs)) empty_register ≡ cond b (f (register_of p rs)) (register_of q rs)
    by true = refl
    by false = refl

pub rises-changed : (p : ℕ) (f : Register → Register) (rs : Registers) → rises rs ≡ true → rises (changed p f rs) ≡ true
rises-changed p f rs up = rises-put p (f (register_of p rs)) rs up

-- what stands after two changes
at-twice : (p q : ℕ) (f g : Register → Register) (rs : Registers) (k : ℕ)
    → at k (changed p f (changed q g rs))
    ≡ cond (p == k) (Some (f (cond (q == p) (g (register_of q rs)) (register_of p rs)))) (cond (q == k) (Some (g (register_of q rs))) (at k rs))
at-twice p q f g rs k =
    at-put p (f (register_of p (changed q g rs))) (changed q g rs) k
    ∙ ap (λ r. cond (p == k) (Some (f r)) (at k (changed q g rs))) (register_of-changed q g rs p)
    ∙ ap (λ o. cond (p == k) (Some (f (cond (q == p) (g (register_of q rs)) (register_of p rs)))) o) (at-put q (g (register_of q rs)) rs k)

-- two changes in either order, where those of one partition do not touch one another
pub changed-swap : (p q : ℕ) (f g : Register → Register) (rs : Registers) → rises rs ≡ true
    → ((p == q) ≡ true → (r : Register) → f (g r) ≡ g (f r)) → changed p f (changed q g rs) ≡ changed q g (changed p f rs)
changed-swap p q f g rs up same =
    same_maps (changed p f (changed q g rs)) (changed q g (changed p f rs))
    (rises-changed p f (changed q g rs) (rises-changed q g rs up)) (rises-changed q g (changed p f rs) (rises-changed p f rs up))
    (λ k. at-twice p q f g rs k ∙ by k (p == k) refl (q == k) refl (p == q) refl ∙ sym (at-twice q p g f rs k))
  where
    by : (k : ℕ) (a : Bool) → (p == k) ≡ a → (b : Bool) → (q == k) ≡ b → (c : Bool) → (p == q) ≡ c
        → cond a (Some (f (cond (q == p) (g (register_of q rs)) (register_of p rs)))) (cond b (Some (g (register_of q rs))) (at k rs))
        ≡ cond b (Some (g (cond c (f (register_of p rs)) (register_of q rs)))) (cond a (Some (f (register_of p rs))) (at k rs))
    by k true e true h true s =
        let turned : (q == p) ≡ true = grind (arith, nat_tests, e, h) in
        let there : q ≡ p = grind (arith, nat_tests, e, h) in
        rw turned (ap (λ n. Some (f (g (register_of n rs)))) there ∙ ap Some (same s (register_of p rs)))
    by k true e true h false s = let here : (p == q) ≡ true = grind (arith, nat_tests, e, h) in absurd (cc)
    by k true e false h c s = let turned : (q == p) ≡ false = grind (arith, nat_tests, e, h) in rw turned refl
    by k false e true h true s = let here : (p == k) ≡ true = grind (arith, nat_tests, h, s) in absurd (cc)
    by k false e true h false s = refl
    by k false e false h c s = refl

-- the later of two changes at one partition, where it covers the earlier
pub changed-again : (p : ℕ) (f g : Register → Register) (rs : Registers) → rises rs ≡ true
    → ((r : Register) → f (g r) ≡ f r) → changed p f (changed p g rs) ≡ changed p f rs
changed-again p f g rs up covers =
    same_maps (changed p f (changed p g rs)) (changed p f rs)
    (rises-changed p f (changed p g rs) (rises-changed p g rs up)) (rises-changed p f rs up)
    (λ k. at-twice p p f g rs k ∙ by k (p == k) ∙ sym (at-put p (f (register_of p rs)) rs k))
  where
    itself : (p == p) ≡ true
    itself = grind (arith, nat_tests)

    by : (k : ℕ) (b : Bool)
        → cond b (Some (f (cond (p == p) (g (register_of p rs)) (register_of p rs)))) (cond b (Some (g (register_of p rs))) (at k rs))
        ≡ cond b (Some (f (register_of p rs))) (at k rs)
    by k true = rw itself (ap Some (covers (register_of p rs)))
    by k false = refl
