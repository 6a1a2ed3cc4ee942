-- Where a test first passes.
use Rattle.std.proofs.Common.{◌≡◌, ℕ, suc, ◌+◌, ◌≤◌, ◌<◌, Bool, true, false, cond, not, eqb, List, [], ◌∷◌, Some, None, length, arith, refl, nat_lt}
use Rattle.std.specs.List.{position, position_or_len, prefix_len}
use Rattle.std.proofs.lemmas.Bool.Decides.{nat_tests}

abbrev pub is_feed : ℕ → Bool
is_feed b = eqb b 10

pub feed_step : (t : Bool) (m n : ℕ) → cond (not t) (1 + m) 0 ≡ suc n → (t ≡ false) × (m ≡ n)
feed_step true m n e = absurd (omega arith)
feed_step false m n e = (refl, omega arith)

pub feed_here : (t : Bool) (m : ℕ) → cond (not t) (1 + m) 0 ≡ 0 → t ≡ true
feed_here true m e = refl
feed_here false m e = absurd (omega arith)

prefix_step : (b : Bool) (m n : ℕ) → m ≤ n → cond b (1 + m) 0 ≤ suc n
prefix_step true m n h = omega arith
prefix_step false m n h = omega arith

prefix_le : {X : Type 0} (p : X → Bool) (xs : List X) → position_or_len p xs ≤ length xs
prefix_le p [] = omega arith
prefix_le p (x ∷ xs) = prefix_step (not (p x)) (prefix_len (λ y. not (p y)) xs) (length xs) (prefix_le p xs)

none_if : {X : Type 0} (n : X) (b : Bool) → cond b (Some n) None ≡ None → b ≡ false
none_if n true e = cc
none_if n false e = refl

pub position_none : {X : Type 0} (p : X → Bool) (xs : List X) → position p xs ≡ None → position_or_len p xs ≡ length xs
position_none p xs e =
    let past = none_if (position_or_len p xs) (nat_lt (position_or_len p xs) (length xs)) e in
    let le = prefix_le p xs in
    grind (arith, nat_tests)

some_if : (m n : ℕ) (b : Bool) → cond b (Some m) None ≡ Some n → (m ≡ n) × (b ≡ true)
some_if m n true e = (cc, refl)
some_if m n false e = cc

pub position_some : {X : Type 0} (p : X → Bool) (xs : List X) (i : ℕ) → position p xs ≡ Some i → (position_or_len p xs ≡ i) × (i < length xs)
position_some p xs i e =
    let here = some_if (position_or_len p xs) i (nat_lt (position_or_len p xs) (length xs)) e in
    let at : position_or_len p xs ≡ i = here.0 in
    let lt : nat_lt (position_or_len p xs) (length xs) ≡ true = here.1 in
    (at, grind (arith, nat_tests))
