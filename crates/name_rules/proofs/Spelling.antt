-- How changes are spelled, and what is read as one.
use Rattle.std.proofs.Common.{◌≡◌, ◌&&◌, ◌==◌, ◌⊎◌, inl, inr, ℕ, zero, suc, ◌+◌, ◌<◌, Bool, true, false, cond, not, List, [], ◌∷◌, ◌++◌, length, take, drop, Option, Some, None, codes, nat_le, nat_lt, arith, refl, ap, sym, subst, ◌∙◌}
use Rattle.std.specs.List.{position, position_or_len, slice_index_or}
use Rattle.std.proofs.lemmas.Bool.{both_ways}
use Rattle.std.proofs.lemmas.Bool.Decides.{nat_tests}
use Rattle.std.proofs.lemmas.List.Quantifiers.{position-Some}
use Rattle.text_fields.specs.Fields.{after_word, behind, nothing}
use Rattle.text_fields.proofs.FieldLaws.{behind_again, behind_found, behind_other}
use Rattle.name_rules.specs.Grammar.{Change, Sets, Deletes, change_of, change_text, delete_of, every, is_name, is_name_byte, is_value, set_of, sets, sets_at}
use Rattle.name_rules.specs.Laws.{IsChange}

abbrev is_blank : ℕ → Bool
is_blank b = b == 32

first : (a b : Bool) → (a && b) ≡ true → a ≡ true
first true b e = refl
first false b e = absurd (both_ways false refl e)

second : (a b : Bool) → (a && b) ≡ true → b ≡ true
second true b e = e
second false b e = absurd (both_ways false refl e)

none_made : {A : Type 0} (x : A) → None ≡ Some x → ⊥
none_made x e = both_ways false refl (ap Rattle.std.specs.Prelude.is_some e)

same_made : {A : Type 0} (x y : A) → Some x ≡ Some y → x ≡ y
same_made x y e = ap (λ o. Rattle.std.specs.Prelude.unwrap_or o x) e

-- what an `if` gives

given : {A : Type 0} (b : Bool) (x c : A) → cond b (Some x) None ≡ Some c → (b ≡ true) × (x ≡ c)
given true x c e = (refl, same_made x c e)
given false x c e = absurd (none_made c e)

around : (xs : List ℕ) (i d : ℕ) → i < length xs → xs ≡ take i xs ++ (slice_index_or xs i d ∷ drop (suc i) xs)
around [] i d l = absurd (omega arith)
around (x ∷ xs) zero d l = refl
around (x ∷ xs) (suc i) d l = ap (λ r. x ∷ r) (around xs i d (omega arith))

more : (i : ℕ) → suc i ≡ i + 1
more i = omega arith

-- reading

sets_found : (bytes : List ℕ) (o : Option ℕ) (c : Change) → position is_blank bytes ≡ o → sets_at bytes o ≡ Some c → IsChange c × (codes "set " ++ bytes ≡ change_text c)
sets_found bytes None c is e = absurd (none_made c e)
sets_found bytes (Some blank) c is e =
    let name = take blank bytes in
    let value = drop (blank + 1) bytes in
    let made = given (is_name name && is_value value) (Sets name value) c e in
    let at = position-Some is_blank bytes blank 0 is in
    let here : slice_index_or bytes blank 0 ≡ 32 = grind (arith, nat_tests, at.1) in
    let parts : bytes ≡ name ++ (32 ∷ value) = around bytes blank 0 at.0 ∙ (ap (λ b. name ++ (b ∷ drop (suc blank) bytes)) here ∙ ap (λ n. name ++ (32 ∷ drop n bytes)) (more blank)) in
    subst (λ x. IsChange x × (codes "set " ++ bytes ≡ change_text x)) made.1 ((first _ _ made.0, second _ _ made.0), ap (λ r. codes "set " ++ r) parts)

deletes_found : (bytes : List ℕ) (c : Change) → delete_of bytes ≡ Some c → IsChange c × (codes "del " ++ bytes ≡ change_text c)
deletes_found bytes c e =
    let made = given (is_name bytes) (Deletes bytes) c e in
    subst (λ x. IsChange x × (codes "del " ++ bytes ≡ change_text x)) made.1 (made.0, refl)

pub found : (bytes : List ℕ) (c : Change) → change_of bytes ≡ Some c → IsChange c × (bytes ≡ change_text c)
unfolding change_of
found bytes c e = outer (behind_found (codes "set ") set_of (behind (codes "del ") delete_of nothing) bytes c e)
  where
    inner : ((rest : List ℕ) × (bytes ≡ codes "del " ++ rest) × (delete_of rest ≡ Some c)) ⊎ (nothing bytes ≡ Some c) → IsChange c × (bytes ≡ change_text c)
    inner (inl (rest, is, read)) = let f = deletes_found rest c read in (f.0, is ∙ f.1)
    inner (inr none) = absurd (none_made c none)

    outer : ((rest : List ℕ) × (bytes ≡ codes "set " ++ rest) × (set_of rest ≡ Some c)) ⊎ (behind (codes "del ") delete_of nothing bytes ≡ Some c) → IsChange c × (bytes ≡ change_text c)
    outer (inl (rest, is, read)) = let f = sets_found rest (position is_blank rest) c refl read in (f.0, is ∙ f.1)
    outer (inr other) = inner (behind_found (codes "del ") delete_of nothing bytes c other)

pub sets_a_name : (bytes name value : List ℕ) → change_of bytes ≡ Some (Sets name value) → is_name name ≡ true
sets_a_name bytes name value e = (found bytes (Sets name value) e).0.0

-- spelling

one_and : (n : ℕ) → 1 + n ≡ suc n
one_and n = omega arith

no_blank : (name value : List ℕ) → every is_name_byte name ≡ true → position_or_len is_blank (name ++ (32 ∷ value)) ≡ length name
no_blank [] value e = refl
no_blank (b ∷ bs) value e =
    let visible : is_name_byte b ≡ true = first _ _ e in
    let other : is_blank b ≡ false = grind (arith, nat_tests, visible) in
    ap (λ t. cond (not t) (1 + position_or_len is_blank (bs ++ (32 ∷ value))) 0) other ∙ (ap (λ n. 1 + n) (no_blank bs value (second _ _ e)) ∙ one_and (length bs))

shorter : (name value : List ℕ) → length name < length (name ++ (32 ∷ value))
shorter [] value = omega arith
shorter (b ∷ bs) value = omega (arith, shorter bs value)

blank_at : (name value : List ℕ) → every is_name_byte name ≡ true → position is_blank (name ++ (32 ∷ value)) ≡ Some (length name)
blank_at name value e =
    let at = no_blank name value e in
    let within : nat_lt (position_or_len is_blank (name ++ (32 ∷ value))) (length (name ++ (32 ∷ value))) ≡ true = let s = shorter name value in grind (arith, nat_tests, at) in
    ap (λ b. cond b (Some (position_or_len is_blank (name ++ (32 ∷ value)))) None) within ∙ ap Some at

front : (xs ys : List ℕ) → take (length xs) (xs ++ ys) ≡ xs
front [] ys = refl
front (x ∷ xs) ys = ap (λ r. x ∷ r) (front xs ys)

rest_of : (xs ys : List ℕ) (b : ℕ) → drop (suc (length xs)) (xs ++ (b ∷ ys)) ≡ ys
rest_of [] ys b = refl
rest_of (x ∷ xs) ys b = rest_of xs ys b

name_bytes : (name : List ℕ) → is_name name ≡ true → every is_name_byte name ≡ true
name_bytes name h =
    second (nat_le 1 (length name) && nat_le (length name) 64) (every is_name_byte name) h

sets_again : (name value : List ℕ) → is_name name ≡ true → is_value value ≡ true → set_of (name ++ (32 ∷ value)) ≡ Some (Sets name value)
sets_again name value n v =
    ap (sets_at (name ++ (32 ∷ value))) (blank_at name value (name_bytes name n))
    ∙ ap (λ m. sets m (drop (length name + 1) (name ++ (32 ∷ value)))) (front name (32 ∷ value))
    ∙ ap (sets name) (ap (λ i. drop i (name ++ (32 ∷ value))) (sym (more (length name))) ∙ rest_of name value 32)
    ∙ ap (λ b. cond b (Some (Sets name value)) None) (ap (λ b. b && is_value value) n ∙ v)

pub again : (c : Change) → IsChange c → change_of (change_text c) ≡ Some c
unfolding change_of after_word
again (Sets name value) h = behind_again (codes "set ") set_of (behind (codes "del ") delete_of nothing) (name ++ (32 ∷ value)) ∙ sets_again name value h.0 h.1
again (Deletes name) h =
    behind_other (codes "set ") set_of (behind (codes "del ") delete_of nothing) (codes "del " ++ name) refl
    ∙ (behind_again (codes "del ") delete_of nothing name ∙ ap (λ b. cond b (Some (Deletes name)) None) h)
