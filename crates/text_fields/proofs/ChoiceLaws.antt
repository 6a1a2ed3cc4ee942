-- Values with a text each: which of them stands at the front.
use Rattle.std.proofs.Common.{◌≡◌, ℕ, ◌+◌, ◌<◌, ⊎_elim, List, [], ◌∷◌, ◌++◌, length, drop, get_or, All, Option, Some, None, arith, ap, sym, subst, ◌∙◌}
use Rattle.std.proofs.lemmas.List.{at_drop_more}
use Rattle.std.proofs.lemmas.List.Elements.{All-head, All-tail}
use Rattle.text_fields.specs.Fields.{Field, after_word, given, first_of}
use Rattle.text_fields.specs.Inverses.{IsField, EndsAnyhow}
use Rattle.text_fields.proofs.FieldLaws.{behind_found, behind_other}
use Rattle.text_fields.proofs.Numbers.{some_same, none_found}

first_found : {A : Type 0} (text : A → List ℕ) (Fits : A → Type 0) (xs : List A) (bytes : List ℕ) (f : A × List ℕ) → All Fits xs
    → first_of text xs bytes ≡ Some f
    → Fits f.0 × (bytes ≡ text f.0 ++ f.1)
first_found text Fits [] bytes f all e = absurd (none_found f e)
first_found {A} text Fits (x ∷ xs) bytes f all e =
    ⊎_elim
    (λ r.
    let read : A × List ℕ = (x, r.0) in
    let P : A × List ℕ → Type 0 = λ q. Fits q.0 × (bytes ≡ text q.0 ++ q.1) in
    subst P {x = read} (some_same read f r.2) (All-head Fits x xs all, r.1))
    (λ other. first_found text Fits xs bytes f (All-tail Fits x xs all) other)
    (behind_found (text x) (given x) (first_of text xs) bytes f e)

-- a list of values, each read where it is spelled
pub first_is : {A : Type 0} (text : A → List ℕ) (Fits : A → Type 0) (xs : List A) → All Fits xs
    → ((x : A) (rest : List ℕ) → Fits x → first_of text xs (text x ++ rest) ≡ Some (x, rest))
    → IsField (first_of text xs) Fits text EndsAnyhow
first_is text Fits xs all again = record {
  found = λ bytes f e. first_found text Fits xs bytes f all e;
  again = λ x rest h ends. again x rest h;
}

abbrev after_text : {A : Type 0} → (A → List ℕ) → A → List A → List ℕ → Option (List ℕ) → Field A
after_text text x xs bytes o = elim o [ Some rest ↦ given x rest | None ↦ first_of text xs bytes ]

-- the text at place i stands there
pub first_here : {A : Type 0} (text : A → List ℕ) (xs ys : List A) (i : ℕ) (d : A) (bytes rest : List ℕ) → xs ≡ ys → i < length ys
    → after_word (text (get_or xs i d)) bytes ≡ Some rest
    → first_of text (drop i xs) bytes ≡ Some (get_or xs i d, rest)
first_here {A} text xs ys i d bytes rest same lt e =
    let within : i < length xs = omega (arith, lt, ap length same) in
    at_drop_more (λ (zs : List A). first_of text zs bytes) xs i d within ∙ ap (after_text text (get_or xs i d) (drop (i + 1) xs) bytes) e

-- it does not stand there
pub first_next : {A : Type 0} (text : A → List ℕ) (xs ys : List A) (i : ℕ) (d : A) (bytes : List ℕ) → xs ≡ ys → i < length ys
    → after_word (text (get_or xs i d)) bytes ≡ None
    → first_of text (drop (i + 1) xs) bytes ≡ first_of text (drop i xs) bytes
first_next {A} text xs ys i d bytes same lt e =
    let within : i < length xs = omega (arith, lt, ap length same) in
    sym (
    at_drop_more (λ (zs : List A). first_of text zs bytes) xs i d within
    ∙ behind_other (text (get_or xs i d)) (given (get_or xs i d)) (first_of text (drop (i + 1) xs)) bytes e
    )
