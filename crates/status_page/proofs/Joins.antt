-- Texts that are written one behind the other.
use Rattle.std.proofs.Common.{◌≡◌, ℕ, List, ◌++◌, Result, Ok, Err, OnOk, ap, ◌∙◌}
use Rattle.std.proofs.lemmas.List.{append_assoc}

-- what follows from the last of several writes, if it was done
pub on_ok : {A E : Type 0} (r : Result A E) (P Q : Type 0) → (P → Q) → OnOk r P → OnOk r Q
on_ok (Ok x) P Q f p = f p
on_ok (Err e) P Q f p = p

-- a text behind a first one
pub behind : (old a b first rest : List ℕ) → a ≡ old ++ first → b ≡ a ++ rest → b ≡ old ++ (first ++ rest)
behind old a b first rest e f = f ∙ (ap (λ t. t ++ rest) e ∙ append_assoc old first rest)

-- a word is how something is spelled
pub spelled : (old now word text : List ℕ) → now ≡ old ++ word → word ≡ text → now ≡ old ++ text
spelled old now word text e f = e ∙ ap (λ t. old ++ t) f
