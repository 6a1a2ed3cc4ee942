-- Distinct arbitrators of a list, counted.
use Rattle.std.proofs.Common.{◌≡◌, ◌∙◌, ℕ, zero, suc, ◌+◌, ◌<◌, ◌≤◌, ◌==◌, Bool, true, false, cond, ◌||◌, List, [], ◌∷◌, length, refl, sym, ap, subst, arith}
use Rattle.std.specs.List.{list_any}
use Rattle.std.proofs.lemmas.Bool.{eqb-true, eqb-false, lt-ltb}
use Rattle.ring_machine.specs.World.{Settings}
use Rattle.ring_machine.specs.Arbitration.{count_to, is_majority}
use Rattle.ring_machine.proofs.Whos.{test}

-- what is alike up to n counts alike
pub count_to-same : (f g : ℕ → Bool) (n : ℕ) → ((a : ℕ) → a ≤ n → f a ≡ g a) → count_to f n ≡ count_to g n
count_to-same f g zero same = refl
count_to-same f g (suc n) same =
    let rest = count_to-same f g n (λ a le. same a (omega arith)) in
    λ i. cond (same (suc n) (omega arith) i) (suc (rest i)) (rest i)

-- a number is no smaller one
not_less : (x a : ℕ) → a < x → x == a ≡ false
not_less x a lt = test (x == a) (λ e. let same = eqb-true x a e in absurd (omega arith)) (λ e. e)

-- one more counts for one
pub count_to-more : (f : ℕ → Bool) (x n : ℕ) → 0 < x → x ≤ n → f x ≡ false → count_to (λ a. x == a || f a) n ≡ suc (count_to f n)
count_to-more f x zero pos le new = absurd (omega arith)
count_to-more f x (suc n) pos le new = test (x == suc n) here (below (λ le. count_to-more f x n pos le new))
  where
    more : ℕ → Bool
    more a = x == a || f a

    -- the rest counts alike, and this one is new
    here : x == suc n ≡ true → count_to more (suc n) ≡ suc (count_to f (suc n))
    here e =
        let same : x ≡ suc n = eqb-true x (suc n) e in
        let fresh : f (suc n) ≡ false = subst (λ a. f a ≡ false) same new in
        let rest : count_to more n ≡ count_to f n = count_to-same more f n (λ a le. ap (λ b. b || f a) (not_less x a (omega arith))) in
        by_rest (x == suc n) e (f (suc n)) fresh (count_to more n) (count_to f n) rest
      where
        by_rest : (b : Bool) → b ≡ true → (d : Bool) → d ≡ false → (k l : ℕ) → k ≡ l → cond (b || d) (suc k) k ≡ suc (cond d (suc l) l)
        by_rest true e false i k l same = ap suc same
        by_rest true e true i k l same = absurd (cc (i))
        by_rest false e d i k l same = absurd (cc (e))

    -- this one counts as before, and the rest has one more
    below : (x ≤ n → count_to more n ≡ suc (count_to f n)) → x == suc n ≡ false → count_to more (suc n) ≡ suc (count_to f (suc n))
    below one e =
        let other : x ≡ suc n → ⊥ = eqb-false x (suc n) e in
        by_rest (x == suc n) e (f (suc n)) (count_to more n) (count_to f n) (one (omega arith))
      where
        by_rest : (b : Bool) → b ≡ false → (d : Bool) → (k l : ℕ) → k ≡ suc l → cond (b || d) (suc k) k ≡ suc (cond d (suc l) l)
        by_rest true e d k l one = absurd (cc (e))
        by_rest false e true k l one = ap suc one
        by_rest false e false k l one = one

abbrev pub is_in : List ℕ → ℕ → Bool
is_in xs a = list_any (λ x. x == a) xs

-- each is an arbitrator, and no two are equal
abbrev pub AreArbiters : Settings → List ℕ → Type 0
AreArbiters c [] = Unit {0}
AreArbiters c (x ∷ xs) = (0 < x) × (x ≤ c.arbiters) × (is_in xs x ≡ false) × AreArbiters c xs

-- they are as many as the list is long
pub count_to-list : (c : Settings) (xs : List ℕ) → AreArbiters c xs → count_to (is_in xs) c.arbiters ≡ length xs
count_to-list c [] are = none c.arbiters
  where
    none : (n : ℕ) → count_to (is_in []) n ≡ 0
    none zero = refl
    none (suc n) = none n
count_to-list c (x ∷ xs) are = count_to-more (is_in xs) x c.arbiters are.0 are.1 are.2 ∙ ap suc (count_to-list c xs are.3)

-- more than half of the arbitrators are a majority
pub is_majority-list : (c : Settings) (xs : List ℕ) → AreArbiters c xs → c.arbiters < length xs + length xs → is_majority c (is_in xs) ≡ true
is_majority-list c xs are most =
    lt-ltb c.arbiters (count_to (is_in xs) c.arbiters + count_to (is_in xs) c.arbiters) (subst (λ k. c.arbiters < k + k) (sym (count_to-list c xs are)) most)
