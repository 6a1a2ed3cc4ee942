-- Two majorities share a member.
use Rattle.std.proofs.Common.{◌≡◌, ℕ, suc, ◌+◌, ◌<◌, Bool, true, false, cond, List, [], ◌∷◌, length, refl, arith}
use Rattle.epoch_machine.specs.Majorities.{count, MajorityOf}

-- two majorities share one
shared : (f g : ℕ → Bool) (xs : List ℕ) → length xs < count f xs + count g xs → (n : ℕ) × (f n ≡ true) × (g n ≡ true)
shared f g [] lt = absurd (omega arith)
shared f g (x ∷ xs) lt = go (f x) refl (g x) refl lt (shared f g xs)
  where
    go : (a : Bool) → f x ≡ a → (b : Bool) → g x ≡ b →
        suc (length xs) < cond a (suc (count f xs)) (count f xs) + cond b (suc (count g xs)) (count g xs) →
        (length xs < count f xs + count g xs → (n : ℕ) × (f n ≡ true) × (g n ≡ true)) → (n : ℕ) × (f n ≡ true) × (g n ≡ true)
    go true e true h lt rest = (x, e, h)
    go true e false h lt rest = rest (omega arith)
    go false e true h lt rest = rest (omega arith)
    go false e false h lt rest = rest (omega arith)

pub meet : {P Q : ℕ → Type 0} (xs : List ℕ) → MajorityOf xs P → MajorityOf xs Q → (n : ℕ) × P n × Q n
meet xs a b =
    let s = shared a.by b.by xs (let p = a.most in let q = b.most in omega arith) in
    (s.0, a.each s.0 s.1, b.each s.0 s.2)

pub majority_map : {P Q : ℕ → Type 0} (xs : List ℕ) → ((n : ℕ) → P n → Q n) → MajorityOf xs P → MajorityOf xs Q
majority_map xs f a = record { by = a.by; each = λ n h. f n (a.each n h); most = a.most }
