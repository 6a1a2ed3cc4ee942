-- Bytes in hexadecimal digits are read exactly where they are spelled.
use Rattle.std.proofs.Common.{◌≡◌, ℕ, ◌+◌, ◌*◌, ◌/◌, ◌%◌, ◌<◌, List, [], ◌∷◌, ◌++◌, length, All, Option, Some, arith, refl, ap, subst, ◌∙◌}
use Rattle.std.proofs.lemmas.List.Elements.{All-nil, All-cons, All-head, All-tail}
use Rattle.fabric_terms.specs.Ranges.{IsByte}
use Rattle.text_fields.specs.Fields.{◌>>=◌}
use Rattle.text_fields.specs.Inverses.{IsRest}
use Rattle.text_fields.specs.Points.{hex_value, hex_digit, hex_text}
use Rattle.text_fields.proofs.FieldLaws.{bind_some}
use Rattle.text_fields.proofs.Numbers.{some_same, none_found}
use Rattle.text_fields.proofs.PointLaws.{value_found, value_again}
use Rattle.line_format.specs.Lines.{bytes_of, bytes_text}

bytes_found : (bytes xs : List ℕ) → bytes_of bytes ≡ Some xs → All IsByte xs × (bytes ≡ bytes_text xs)
bytes_found [] xs e = subst (λ (ys : List ℕ). All IsByte ys × ([] ≡ bytes_text ys)) (some_same [] xs e) (All-nil IsByte, refl)
bytes_found (d ∷ []) xs e = absurd (none_found xs e)
bytes_found (d ∷ g ∷ rest) xs e =
    let h = bind_some (hex_value d) (λ high. hex_value g >>= λ low. bytes_of rest >>= λ more. Some ((16 * high + low) ∷ more)) xs e in
    let l = bind_some (hex_value g) (λ low. bytes_of rest >>= λ more. Some ((16 * h.0 + low) ∷ more)) xs h.2 in
    let m = bind_some (bytes_of rest) (λ more. Some ((16 * h.0 + l.0) ∷ more)) xs l.2 in
    let high = value_found d h.0 h.1 in
    let low = value_found g l.0 l.1 in
    let more = bytes_found rest m.0 m.1 in
    let x = 16 * h.0 + l.0 in
    let front : h.0 ≡ x / 16 % 16 = omega (arith, high.0, low.0) in
    let last : l.0 ≡ x % 16 = omega (arith, high.0, low.0) in
    let P : List ℕ → Type 0 = λ ys. All IsByte ys × ((d ∷ g ∷ rest) ≡ bytes_text ys) in
    subst P (some_same (x ∷ m.0) xs m.2) (
      All-cons IsByte x m.0 (omega (arith, high.0, low.0)) more.0,
      ap (λ c. c ∷ g ∷ rest) (high.1 ∙ ap hex_digit front)
          ∙ (ap (λ c. hex_digit (x / 16 % 16) ∷ c ∷ rest) (low.1 ∙ ap hex_digit last) ∙ ap (λ t. hex_text 2 x ++ t) more.1),
    )

bytes_again : (xs : List ℕ) → All IsByte xs → bytes_of (bytes_text xs) ≡ Some xs
bytes_again [] h = refl
bytes_again (x ∷ xs) h =
    let small : x < 256 = All-head IsByte x xs h in
    let whole : 16 * (x / 16 % 16) + x % 16 ≡ x = omega arith in
    ap (λ (o : Option ℕ). o >>= λ high. hex_value (hex_digit (x % 16)) >>= λ low. bytes_of (bytes_text xs) >>= λ more. Some ((16 * high + low) ∷ more)) (value_again (x / 16 % 16) (omega arith))
    ∙ (ap (λ (o : Option ℕ). o >>= λ low. bytes_of (bytes_text xs) >>= λ more. Some ((16 * (x / 16 % 16) + low) ∷ more)) (value_again (x % 16) (omega arith))
    ∙ (ap (λ (o : Option (List ℕ)). o >>= λ more. Some ((16 * (x / 16 % 16) + x % 16) ∷ more)) (bytes_again xs (All-tail IsByte x xs h))
    ∙ ap (λ b. Some (b ∷ xs)) whole))

pub bytes_are : IsRest bytes_of (All IsByte) bytes_text
bytes_are = record { found = bytes_found; again = bytes_again }

pub length-bytes_text : (xs : List ℕ) → length (bytes_text xs) ≡ 2 * length xs
length-bytes_text [] = refl
length-bytes_text (x ∷ xs) = omega (arith, length-bytes_text xs)
