-- Places of lists.
use Rattle.std.proofs.Common.{◌≡◌, ℕ, zero, suc, ◌<◌, List, [], ◌∷◌, ◌++◌, length, ◌⊎◌, sym, ap, inl, inr, arith}
use Rattle.epoch_machine.specs.Logs.{IsAt}

-- a place of the front is one of the whole
pub IsAt-append : {A : Type 0} (xs ys : List A) (n : ℕ) (x : A) → IsAt xs n x → IsAt (xs ++ ys) n x
IsAt-append [] ys n x h = absurd h
IsAt-append (z ∷ xs) ys zero x h = h
IsAt-append (z ∷ xs) ys (suc n) x h = IsAt-append xs ys n x h

pub IsAt-front : {A : Type 0} (xs ys : List A) (n : ℕ) (x : A) → n < length xs → IsAt (xs ++ ys) n x → IsAt xs n x
IsAt-front [] ys n x lt h = absurd (omega arith)
IsAt-front (z ∷ xs) ys zero x lt h = h
IsAt-front (z ∷ xs) ys (suc n) x lt h = IsAt-front xs ys n x (omega arith) h

pub IsAt-bound : {A : Type 0} (xs : List A) (n : ℕ) (x : A) → IsAt xs n x → n < length xs
IsAt-bound [] n x h = absurd h
IsAt-bound (z ∷ xs) zero x h = omega arith
IsAt-bound (z ∷ xs) (suc n) x h = let lt = IsAt-bound xs n x h in omega arith

-- what follows a front
pub IsAt-next : {A : Type 0} (xs ys : List A) (x : A) → IsAt (xs ++ ys) (length xs) x → (zs : List A) × (ys ≡ x ∷ zs)
IsAt-next [] [] x h = absurd h
IsAt-next [] (y ∷ ys) x h = (ys, ap (λ z. z ∷ ys) h)
IsAt-next (z ∷ xs) ys x h = IsAt-next xs ys x h

-- a place of a list with one more
pub IsAt-push : {A : Type 0} (xs : List A) (y : A) (n : ℕ) (x : A) → IsAt (xs ++ (y ∷ [])) n x → IsAt xs n x ⊎ (x ≡ y)
IsAt-push [] y zero x h = inr (sym h)
IsAt-push [] y (suc n) x h = absurd h
IsAt-push (z ∷ xs) y zero x h = inl h
IsAt-push (z ∷ xs) y (suc n) x h = IsAt-push xs y n x h
