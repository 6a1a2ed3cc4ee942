-- Members of lists.
use Rattle.std.proofs.Common.{List, [], ◌∷◌, ◌++◌, ◌⊎◌, inl, inr, ⊎_elim}
use Rattle.fabric_lemmas.specs.Members.{IsMember}

pub IsMember-append_right : {A : Type 0} (x : A) (xs ys : List A) → IsMember x ys → IsMember x (xs ++ ys)
IsMember-append_right x [] ys m = m
IsMember-append_right x (z ∷ xs) ys m = inr (IsMember-append_right x xs ys m)

pub IsMember-append_left : {A : Type 0} (x : A) (xs ys : List A) → IsMember x xs → IsMember x (xs ++ ys)
IsMember-append_left x [] ys m = absurd m
IsMember-append_left x (z ∷ xs) ys (inl e) = inl e
IsMember-append_left x (z ∷ xs) ys (inr m) = inr (IsMember-append_left x xs ys m)

pub IsMember-append_cases : {A : Type 0} (x : A) (xs ys : List A) → IsMember x (xs ++ ys) → IsMember x xs ⊎ IsMember x ys
IsMember-append_cases x [] ys m = inr m
IsMember-append_cases x (z ∷ xs) ys (inl e) = inl (inl e)
IsMember-append_cases x (z ∷ xs) ys (inr m) = ⊎_elim (λ h. inl (inr h)) (λ h. inr h) (IsMember-append_cases x xs ys m)
