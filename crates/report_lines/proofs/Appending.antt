-- Texts that are written one behind the other.
use Rattle.std.proofs.Common.{◌≡◌, ℕ, ◌+◌, ◌-◌, ◌<◌, ◌≤◌, List, [], ◌∷◌, ◌++◌, length, take, drop, get_or, arith, add-one, drop-cons, ap, sym, ◌∙◌}
use Rattle.std.specs.Prelude.{codes}
use Rattle.std.specs.List.{flat_map}
use Rattle.std.proofs.lemmas.List.{append_assoc, append-nil, drop_all}
use Rattle.text_fields.proofs.Lists.{rest_is, written_on}
use Rattle.line_format.specs.Lists.{names_text}

-- one text more of a list, and then those that are left
pub one_more : {A : Type 0} (text : A → List ℕ) (xs : List A) (i : ℕ) (d : A) (old now whole : List ℕ) → i < length xs
    → now ≡ old ++ text (get_or xs i d) → old ++ flat_map text (drop i xs) ≡ whole → now ++ flat_map text (drop (i + 1) xs) ≡ whole
one_more text xs i d old now whole within written left =
    let next : drop i xs ≡ get_or xs i d ∷ drop (i + 1) xs = rw add-one (drop-cons xs i d within) in
    ap (λ t. t ++ flat_map text (drop (i + 1) xs)) written
    ∙ append_assoc old (text (get_or xs i d)) (flat_map text (drop (i + 1) xs))
    ∙ ap (λ ys. old ++ flat_map text ys) (sym next) ∙ left

-- no text is left
pub none_left : {A : Type 0} (text : A → List ℕ) (xs : List A) (i : ℕ) (now whole : List ℕ) → length xs ≤ i → now ++ flat_map text (drop i xs) ≡ whole → now ≡ whole
none_left text xs i now whole done left = sym (append-nil now) ∙ ap (λ ys. now ++ flat_map text ys) (sym (drop_all i xs done)) ∙ left

names_first : (xs : List (List ℕ)) (d : List ℕ) → 1 ≤ length xs
    → names_text xs ≡ (codes " " ++ get_or xs 0 d) ++ flat_map (λ n. codes "," ++ n) (take (length xs - 1) (drop 1 xs))
names_first [] d h = absurd (omega arith)
names_first (x ∷ xs) d h = ap (λ t. codes " " ++ (x ++ flat_map (λ n. codes "," ++ n) t)) (sym (rest_is (x ∷ xs) 1))

-- names begin with the first of them
pub names_begun : (old now first : List ℕ) (xs : List (List ℕ)) (d : List ℕ) → 1 ≤ length xs → now ≡ old ++ (codes " " ++ first) → first ≡ get_or xs 0 d
    → now ++ flat_map (λ n. codes "," ++ n) (take (length xs - 1) (drop 1 xs)) ≡ old ++ names_text xs
names_begun old now first xs d some written is =
    written_on old now (codes " " ++ get_or xs 0 d) _ _ (written ∙ ap (λ t. old ++ (codes " " ++ t)) is) (names_first xs d some)
