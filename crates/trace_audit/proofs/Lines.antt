-- A text as its lines.
use Rattle.std.proofs.Common.{◌≡◌, ℕ, Bool, true, false, cond, not, ◌&&◌, List, [], ◌∷◌, ◌++◌, refl, sym, ap, ◌∙◌}
use Rattle.std.specs.Prelude.{◌==◌, codes}
use Rattle.std.specs.List.{list_all}
use Rattle.std.proofs.lemmas.List.{append_assoc, append-nil}
use Rattle.line_format.specs.Lines.{lines_of, onto_first}

-- no byte is a line feed
abbrev pub inked : List ℕ → Bool
inked bytes = list_all (λ b. not (b == 10)) bytes

-- the text is these lines, whatever follows it
abbrev pub IsLines : List ℕ → List (List ℕ) → Type 0
IsLines text lines = (rest : List ℕ) → lines_of (text ++ rest) ≡ lines ++ lines_of rest

pub no_lines : IsLines [] []
no_lines rest = refl

pub more_lines : (a b : List ℕ) (ls ms : List (List ℕ)) → IsLines a ls → IsLines b ms → IsLines (a ++ b) (ls ++ ms)
more_lines a b ls ms h k rest =
    ap lines_of (append_assoc a b rest) ∙ (h (b ++ rest) ∙ (ap (λ x. ls ++ x) (k rest) ∙ sym (append_assoc ls ms (lines_of rest))))

-- a line and its line feed
pub one_line : (line : List ℕ) → inked line ≡ true → IsLines (line ++ codes "\n") (line ∷ [])
one_line [] h rest = refl
one_line (b ∷ bs) h rest = by_test (b == 10) refl h (λ g. one_line bs g rest)
  where
    by_test : (t : Bool) → (b == 10) ≡ t → (not t && inked bs) ≡ true →
        (inked bs ≡ true → lines_of ((bs ++ codes "\n") ++ rest) ≡ bs ∷ lines_of rest) →
        cond t ([] ∷ lines_of ((bs ++ codes "\n") ++ rest)) (onto_first b (lines_of ((bs ++ codes "\n") ++ rest))) ≡ (b ∷ bs) ∷ lines_of rest
    by_test true e g more = absurd (cc (g))
    by_test false e g more = ap (onto_first b) (more g)

-- all of it
pub all_lines : (text : List ℕ) (lines : List (List ℕ)) → IsLines text lines → lines_of text ≡ lines
all_lines text lines h = ap lines_of (sym (append-nil text)) ∙ (h [] ∙ append-nil lines)
