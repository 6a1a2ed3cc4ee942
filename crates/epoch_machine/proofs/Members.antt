-- Members of a list with one more.
use Rattle.std.proofs.Common.{◌≡◌, List, ◌∷◌, sym, subst, inl, inr}
use Rattle.fabric_lemmas.specs.Members.{IsMember}

-- what holds of each member of a list with one more
pub new_cases : {A : Type 0} (P : A → Type 0) (x : A) (xs : List A) → P x → ((y : A) → IsMember y xs → P y) → (y : A) → IsMember y (x ∷ xs) → P y
new_cases P x xs here there y (inl e) = subst P (sym e) here
new_cases P x xs here there y (inr m) = there y m

-- another element than the new one
pub not_new : {A : Type 0} (x y : A) (xs : List A) → (x ≡ y → ⊥) → IsMember x (y ∷ xs) → IsMember x xs
not_new x y xs n (inl e) = absurd (n e)
not_new x y xs n (inr m) = m
