-- Equal ends, and functions changed at one of them.
use Rattle.std.proofs.Common.{◌≡◌, ℕ, Bool, true, false, cond, ◌==◌, ◌⊎◌, refl, ap, subst, inl, inr}
use Rattle.std.proofs.lemmas.Bool.{eqb-true, eqb-false, eq-eqb, and_parts, and_from, both_ways}
use Rattle.ring_points.specs.declared.who.Who.{Who}
use Rattle.ring_points.specs.Whos.{same_who}
use Rattle.ring_points.proofs.Whos.{same_who-true, same_who-refl, same_who-false}
use Rattle.ring_machine.specs.Ends.{End, same_end, updated, replaced}

-- a test is true or false, with the equation
pub test : {X : Type 0} (b : Bool) → (b ≡ true → X) → (b ≡ false → X) → X
test true on off = on refl
test false on off = off refl

-- what holds of an updated function, by cases
pub updated_cases : {A : Type 0} (P : A → Type 0) (f : Who → A) (x y : Who) (value : A) → (x ≡ y → P value) →
    (same_who x y ≡ false → P (f y)) → P (updated f x value y)
updated_cases P f x y value on off = go (same_who x y) refl
  where
    go : (b : Bool) → same_who x y ≡ b → P (cond b value (f y))
    go true e = on (same_who-true x y e)
    go false e = off e

pub replaced_cases : {A : Type 0} (P : A → Type 0) (f : ℕ → A) (m n : ℕ) (value : A) → (m ≡ n → P value) → ((m ≡ n → ⊥) → P (f n)) → P (replaced f m value n)
replaced_cases P f m n value on off = go (m == n) refl
  where
    go : (b : Bool) → (m == n) ≡ b → P (cond b value (f n))
    go true e = on (eqb-true m n e)
    go false e = off (eqb-false m n e)

pub same_end-true : (a b : End) → same_end a b ≡ true → a ≡ b
same_end-true a b e =
    let h : (same_who a.who b.who ≡ true) × (a.number == b.number ≡ true) = and_parts (same_who a.who b.who) (a.number == b.number) e in
    λ i. record { who = same_who-true a.who b.who h.0 i; number = eqb-true a.number b.number h.1 i }

pub same_end-refl : (a : End) → same_end a a ≡ true
same_end-refl a = and_from (same_who a.who a.who) (a.number == a.number) (same_who-refl a.who) (eq-eqb a.number a.number refl)

pub end_cases : (e f : End) → (e ≡ f) ⊎ (e ≡ f → ⊥)
end_cases e f = test (same_end e f) (λ a. inl (same_end-true e f a)) (λ a. inr (λ b. both_ways _ a (subst (λ f. same_end e f ≡ true) b (same_end-refl e))))

-- ends of different instances differ
pub apart_ends : (e f : End) → same_who e.who f.who ≡ false → e ≡ f → ⊥
apart_ends e f apart h = same_who-false e.who f.who apart (ap (λ (g : End). g.who) h)
