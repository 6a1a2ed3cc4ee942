-- Two majorities share a member.
use Rattle.std.proofs.Common.{◌≡◌, ℕ, zero, suc, ◌+◌, ◌<◌, ◌≤◌, Bool, true, false, cond, refl, arith}
use Rattle.std.proofs.lemmas.Bool.{ltb-true, lt-ltb}
use Rattle.ring_machine.specs.World.{Settings}
use Rattle.ring_machine.specs.Arbitration.{count_to, is_majority}

share : (f g : ℕ → Bool) (n : ℕ) → n < count_to f n + count_to g n → (a : ℕ) × (f a ≡ true) × (g a ≡ true)
share f g zero h = absurd (omega arith)
share f g (suc n) h = go (f (suc n)) (g (suc n)) refl refl h (share f g n)
  where
    go : (b d : Bool) → f (suc n) ≡ b → g (suc n) ≡ d → suc n < cond b (suc (count_to f n)) (count_to f n) + cond d (suc (count_to g n)) (count_to g n) →
        (n < count_to f n + count_to g n → (a : ℕ) × (f a ≡ true) × (g a ≡ true)) → (a : ℕ) × (f a ≡ true) × (g a ≡ true)
    go true true e1 e2 lt more = (suc n, e1, e2)
    go true false e1 e2 lt more = more (omega arith)
    go false true e1 e2 lt more = more (omega arith)
    go false false e1 e2 lt more = more (omega arith)

pub majorities_meet : (c : Settings) (f g : ℕ → Bool) → is_majority c f ≡ true → is_majority c g ≡ true → (a : ℕ) × (f a ≡ true) × (g a ≡ true)
majorities_meet c f g h k =
    let more_f = ltb-true c.arbiters (count_to f c.arbiters + count_to f c.arbiters) h in
    let more_g = ltb-true c.arbiters (count_to g c.arbiters + count_to g c.arbiters) k in
    share f g c.arbiters (omega arith)

-- of two tests, the second of which passes wherever the first does, it counts as many or more
count_to-rises : (f g : ℕ → Bool) → ((a : ℕ) → f a ≡ true → g a ≡ true) → (n : ℕ) → count_to f n ≤ count_to g n
count_to-rises f g more zero = omega arith
count_to-rises f g more (suc n) = go (f (suc n)) (g (suc n)) (more (suc n)) refl refl (count_to-rises f g more n)
  where
    go : (b d : Bool) → (f (suc n) ≡ true → g (suc n) ≡ true) → f (suc n) ≡ b → g (suc n) ≡ d → count_to f n ≤ count_to g n →
        cond b (suc (count_to f n)) (count_to f n) ≤ cond d (suc (count_to g n)) (count_to g n)
    go true true m e1 e2 le = omega arith
    go true false m e1 e2 le = absurd (let k = m e1 in cc (k, e2))
    go false true m e1 e2 le = omega arith
    go false false m e1 e2 le = le

pub majority_more : (c : Settings) (f g : ℕ → Bool) → ((a : ℕ) → f a ≡ true → g a ≡ true) → is_majority c f ≡ true → is_majority c g ≡ true
majority_more c f g more h =
    let most = ltb-true c.arbiters (count_to f c.arbiters + count_to f c.arbiters) h in
    let rises = count_to-rises f g more c.arbiters in
    lt-ltb c.arbiters (count_to g c.arbiters + count_to g c.arbiters) (omega arith)
