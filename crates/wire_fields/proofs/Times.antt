-- Fields of one kind, read one after the other.
use Rattle.std.proofs.Common.{◌≡◌, ℕ, suc, List, [], ◌∷◌, ◌++◌, Some, None, refl, ap, sym, ◌∙◌}
use Rattle.std.proofs.lemmas.List.{append-nil, append_assoc}
use Rattle.wire_fields.specs.Readers.{◌>>=◌, Field, times}

-- what was read before, and then what is read of the rest
abbrev pub with_front : {A : Type 0} → List A → Field (List A) → Field (List A)
with_front xs read = read >>= λ y. Some (xs ++ y.0, y.1)

pub times_first : {A : Type 0} (read : Field (List A)) → with_front [] read ≡ read
times_first None = refl
times_first (Some y) = refl

pub times_next : {A : Type 0} (field : List ℕ → Field A) (n m : ℕ) (xs : List A) (bytes : List ℕ) (x : A) (rest : List ℕ) → n ≡ suc m → field bytes ≡ Some (x, rest) → with_front (xs ++ x ∷ []) (times m field rest) ≡ with_front xs (times n field bytes)
unfolding times
times_next {A} field n m xs bytes x rest e h =
    sym (ap (λ k. with_front xs (times k field bytes)) e
    ∙ (ap (λ (o : Field A). with_front xs (o >>= λ z. times m field z.1 >>= λ y. Some (z.0 ∷ y.0, y.1))) h ∙ regroup (times m field rest)))
  where
    regroup : (o : Field (List A)) → with_front xs (o >>= λ y. Some (x ∷ y.0, y.1)) ≡ with_front (xs ++ x ∷ []) o
    regroup None = refl
    regroup (Some y) = ap (λ t. Some (t, y.1)) (sym (append_assoc xs (x ∷ []) y.0))

pub times_bad : {A : Type 0} (field : List ℕ → Field A) (n m : ℕ) (xs : List A) (bytes : List ℕ) → n ≡ suc m → field bytes ≡ None → with_front xs (times n field bytes) ≡ None
unfolding times
times_bad {A} field n m xs bytes e h =
    ap (λ k. with_front xs (times k field bytes)) e
    ∙ ap (λ (o : Field A). with_front xs (o >>= λ z. times m field z.1 >>= λ y. Some (z.0 ∷ y.0, y.1))) h

pub times_done : {A : Type 0} (field : List ℕ → Field A) (n : ℕ) (xs : List A) (bytes : List ℕ) → n ≡ 0 → with_front xs (times n field bytes) ≡ Some (xs, bytes)
unfolding times
times_done {A} field n xs bytes e = ap (λ k. with_front xs (times k field bytes)) e ∙ ap (λ t. Some (t, bytes)) (append-nil xs)
