-- Lines that are written one behind the other.
use Rattle.std.proofs.Common.{◌≡◌, ℕ, List, [], ◌∷◌, ◌++◌, Option, ap, sym, ◌∙◌}
use Rattle.std.specs.Prelude.{OnOk, Result, Ok, Err}
use Rattle.std.proofs.lemmas.Grind.{flat_map-append}
use Rattle.std.proofs.lemmas.List.{append_assoc, append-nil}
use Rattle.door_lines.specs.Words.{Words}
use Rattle.state_lines.specs.Answers.{line_text, lines_text}

-- an answer of one line
pub only_line : (tag : Option ℕ) (w : Words) (old now : List ℕ) → now ≡ old ++ line_text tag w → now ≡ old ++ lines_text tag (w ∷ [])
only_line tag w old now written = written ∙ ap (λ t. old ++ t) (sym (append-nil (line_text tag w)))

-- lines, and more lines behind them
pub lines_behind : (tag : Option ℕ) (a b : List Words) (old now next : List ℕ) → now ≡ old ++ lines_text tag a → next ≡ now ++ lines_text tag b
    → next ≡ old ++ lines_text tag (a ++ b)
lines_behind tag a b old now next first second =
    second
    ∙ ap (λ t. t ++ lines_text tag b) first
    ∙ append_assoc old (lines_text tag a) (lines_text tag b)
    ∙ ap (λ t. old ++ t) (sym (flat_map-append (line_text tag) a b))

-- parts of an answer, one behind the other
pub all_parts : (tag : Option ℕ) (a b d e f : List Words) (w : Words) (t₀ t₁ t₂ t₃ t₄ t₅ t₆ : List ℕ)
    → t₁ ≡ t₀ ++ lines_text tag a → t₂ ≡ t₁ ++ lines_text tag b → t₃ ≡ t₂ ++ line_text tag w → t₄ ≡ t₃ ++ lines_text tag d → t₅ ≡ t₄ ++ lines_text tag e
    → t₆ ≡ t₅ ++ lines_text tag f → t₆ ≡ t₀ ++ lines_text tag (a ++ b ++ w ∷ d ++ e ++ f)
all_parts tag a b d e f w t₀ t₁ t₂ t₃ t₄ t₅ t₆ pa pb pw pd pe pf =
    let to_b = lines_behind tag a b t₀ t₁ t₂ pa pb in
    let to_d = lines_behind tag (a ++ b) (w ∷ d) t₀ t₂ t₄ to_b (lines_behind tag (w ∷ []) d t₂ t₃ t₄ (only_line tag w t₂ t₃ pw) pd) in
    let to_e = lines_behind tag (a ++ b ++ w ∷ d) e t₀ t₄ t₅ to_d pe in
    lines_behind tag (a ++ b ++ w ∷ d ++ e) f t₀ t₅ t₆ to_e pf

-- what follows from what holds on `Ok` holds on it too
pub on_ok : {A E : Type 0} {P Q : Type 0} (r : Result A E) → (Q → P) → OnOk r Q → OnOk r P
on_ok (Ok x) then q = then q
on_ok (Err e) then q = q
