-- Lists that are joined, and lists that are read piece by piece.
use Rattle.std.proofs.Common.{◌≡◌, ℕ, List, [], ◌∷◌, ◌++◌, map, Option, Some, None, ap, sym, refl}
use Rattle.std.specs.List.{join_with_byte, flat_map}
use Rattle.std.proofs.lemmas.List.{append_assoc, append-nil}
use Rattle.text_fields.specs.Fields.{◌>>=◌}

-- words with a byte between each two, as the first and then each other behind the byte
pub joined_is : {A : Type 0} (c : ℕ) (x : List ℕ) (f : A → List ℕ) (xs : List A) → join_with_byte c (x ∷ map f xs) ≡ x ++ flat_map (λ y. c ∷ f y) xs
joined_is c x f [] = sym (append-nil x)
joined_is c x f (y ∷ xs) = ap (λ t. x ++ c ∷ t) (joined_is c (f y) f xs)

-- a list that is read piece by piece: what is read so far, and then what is read of the rest
abbrev pub put_before : {A : Type 0} → List A → Option (List A) → Option (List A)
put_before xs None = None
put_before xs (Some ys) = Some (xs ++ ys)

pub put_next : {A : Type 0} (xs : List A) (x : A) (o : Option (List A)) → put_before xs (o >>= λ more. Some (x ∷ more)) ≡ put_before (xs ++ x ∷ []) o
put_next xs x None = refl
put_next xs x (Some more) = ap Some (sym (append_assoc xs (x ∷ []) more))
