-- Functions changed at one number.
use Rattle.std.proofs.Common.{◌≡◌, ℕ, Bool, true, false, cond, ◌==◌, refl, subst}
use Rattle.std.proofs.lemmas.Bool.{eqb-true, eqb-false}
use Rattle.epoch_machine.specs.World.{replaced}

-- what holds at each number of a function changed at one, and of two such functions
pub put_cases : {A : Type 0} (P : ℕ → A → Type 0) (f : ℕ → A) (m : ℕ) (v : A) → P m v → ((n : ℕ) → (m ≡ n → ⊥) → P n (f n)) →
    (n : ℕ) → P n (replaced f m v n)
put_cases P f m v here there n = go (m == n) refl
  where
    go : (b : Bool) → (m == n) ≡ b → P n (cond b v (f n))
    go true e = subst (λ k. P k v) (eqb-true m n e) here
    go false e = there n (eqb-false m n e)

pub put_both_cases : {A B : Type 0} (P : ℕ → A → B → Type 0) (f : ℕ → A) (g : ℕ → B) (m : ℕ) (v : A) (u : B) → P m v u →
    ((n : ℕ) → (m ≡ n → ⊥) → P n (f n) (g n)) → (n : ℕ) → P n (replaced f m v n) (replaced g m u n)
put_both_cases P f g m v u here there n = go (m == n) refl
  where
    go : (b : Bool) → (m == n) ≡ b → P n (cond b v (f n)) (cond b u (g n))
    go true e = subst (λ k. P k v u) (eqb-true m n e) here
    go false e = there n (eqb-false m n e)

pub put_at : {A : Type 0} (f : ℕ → A) (m : ℕ) (v : A) → replaced f m v m ≡ v
put_at f m v = put_cases (λ n u. m ≡ n → u ≡ v) f m v (λ e. refl) (λ n d e. absurd (d e)) m refl

pub put_other : {A : Type 0} (f : ℕ → A) (m : ℕ) (v : A) (n : ℕ) → (m ≡ n → ⊥) → replaced f m v n ≡ f n
put_other f m v n d = put_cases (λ k u. (m ≡ k → ⊥) → u ≡ f k) f m v (λ d. absurd (d refl)) (λ k e d. refl) n d
