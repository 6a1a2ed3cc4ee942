-- The steps of reading bytes, two digits at a time.
use Rattle.std.proofs.Common.{◌≡◌, ℕ, ◌+◌, ◌*◌, ◌≤◌, List, [], ◌∷◌, ◌++◌, length, drop, get_or, Option, Some, None, arith, refl, ap, sym, ◌∙◌}
use Rattle.std.proofs.lemmas.List.{append-nil}
use Rattle.text_fields.specs.Fields.{◌>>=◌}
use Rattle.text_fields.specs.Points.{hex_value}
use Rattle.line_format.specs.Lines.{bytes_of}
use Rattle.line_format.proofs.Lists.{put_before, put_next}

abbrev after_low : ℕ → List ℕ → Option ℕ → Option (List ℕ)
after_low high rest o = o >>= λ low. bytes_of rest >>= λ more. Some ((16 * high + low) ∷ more)

abbrev after_high : ℕ → List ℕ → Option ℕ → Option (List ℕ)
after_high e rest o = o >>= λ high. after_low high rest (hex_value e)

pub bytes_next : (bytes rest : List ℕ) (high low : ℕ) → 2 ≤ length rest → hex_value (get_or rest 0 0) ≡ Some high → hex_value (get_or rest 1 0) ≡ Some low
    → put_before (bytes ++ (16 * high + low) ∷ []) (bytes_of (drop 2 rest)) ≡ put_before bytes (bytes_of rest)
bytes_next bytes [] high low h a b = absurd (omega arith)
bytes_next bytes (d ∷ []) high low h a b = absurd (omega arith)
bytes_next bytes (d ∷ e ∷ rest) high low h a b =
    sym (ap (λ o. put_before bytes (after_high e rest o)) a
    ∙ (ap (λ o. put_before bytes (after_low high rest o)) b ∙ put_next bytes (16 * high + low) (bytes_of rest)))

pub bytes_bad_high : (bytes rest : List ℕ) → 2 ≤ length rest → hex_value (get_or rest 0 0) ≡ None → put_before bytes (bytes_of rest) ≡ None
bytes_bad_high bytes [] h a = absurd (omega arith)
bytes_bad_high bytes (d ∷ []) h a = absurd (omega arith)
bytes_bad_high bytes (d ∷ e ∷ rest) h a = ap (λ o. put_before bytes (after_high e rest o)) a

pub bytes_bad_low : (bytes rest : List ℕ) (high : ℕ) → 2 ≤ length rest → hex_value (get_or rest 0 0) ≡ Some high → hex_value (get_or rest 1 0) ≡ None
    → put_before bytes (bytes_of rest) ≡ None
bytes_bad_low bytes [] high h a b = absurd (omega arith)
bytes_bad_low bytes (d ∷ []) high h a b = absurd (omega arith)
bytes_bad_low bytes (d ∷ e ∷ rest) high h a b = ap (λ o. put_before bytes (after_high e rest o)) a ∙ ap (λ o. put_before bytes (after_low high rest o)) b

pub bytes_odd : (bytes rest : List ℕ) → length rest ≡ 1 → put_before bytes (bytes_of rest) ≡ None
bytes_odd bytes [] h = absurd (omega arith)
bytes_odd bytes (d ∷ []) h = refl
bytes_odd bytes (d ∷ e ∷ rest) h = absurd (omega arith)

pub bytes_done : (bytes rest : List ℕ) → length rest ≡ 0 → put_before bytes (bytes_of rest) ≡ Some bytes
bytes_done bytes [] h = ap Some (append-nil bytes)
bytes_done bytes (d ∷ rest) h = absurd (omega arith)
