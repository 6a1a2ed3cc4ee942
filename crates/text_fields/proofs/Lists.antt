-- What is left of a list, lists with commas, and fronts of lists.
use Rattle.std.proofs.Common.{◌≡◌, ℕ, ◌-◌, ◌≤◌, List, [], ◌∷◌, ◌++◌, length, take, drop, get_or, arith, length-drop, ap, sym, ◌∙◌}
use Rattle.std.specs.Prelude.{codes}
use Rattle.std.specs.List.{flat_map}
use Rattle.std.proofs.lemmas.List.{take_all, append_assoc, length-take, take-take}
use Rattle.text_fields.specs.Texts.{Keeps, listed}

-- `&xs[n..]`
pub rest_is : {A : Type 0} (xs : List A) (n : ℕ) → take (length xs - n) (drop n xs) ≡ drop n xs
rest_is xs n = take_all (length xs - n) (drop n xs) (omega (arith, length-drop n xs))

-- a list with commas begins with its first
pub listed_first : {A : Type 0} (f : A → List ℕ) (xs : List A) (d : A) → 1 ≤ length xs
    → listed f xs ≡ f (get_or xs 0 d) ++ flat_map (λ y. codes "," ++ f y) (take (length xs - 1) (drop 1 xs))
listed_first f [] d h = absurd (omega arith)
listed_first f (x ∷ xs) d h = ap (λ t. f x ++ flat_map (λ y. codes "," ++ f y) t) (sym (rest_is (x ∷ xs) 1))

-- a front of a front is a front
pub keeps_on : (a b d : List ℕ) → Keeps a b → Keeps b d → Keeps a d
keeps_on a b d first second =
    let fits : length a ≤ length b = omega (arith, length-take (length a) b, ap length first.front) in
    record { front = sym (take-take (length a) (length b) d fits) ∙ (ap (take (length a)) second.front ∙ first.front) }

-- a text that begins with what is written, and goes on
pub written_on : (old now first rest whole : List ℕ) → now ≡ old ++ first → whole ≡ first ++ rest → now ++ rest ≡ old ++ whole
written_on old now first rest whole a b = ap (λ t. t ++ rest) a ∙ (append_assoc old first rest ∙ ap (λ t. old ++ t) (sym b))
