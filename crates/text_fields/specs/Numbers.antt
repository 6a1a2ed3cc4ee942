-- Numbers: decimal digits, with no sign and no leading zero.
use Rattle.std.specs.Prelude.{ℕ, ◌+◌, ◌-◌, ◌*◌, ◌≤◌, ◌&&◌, List, [], ◌∷◌, Option, Some, None, nat_le, codes, decimal, ◌==◌, if◌then◌else◌}
use Rattle.std.specs.Char.{is_ascii_digit}
use Rattle.text_fields.specs.Codes.{zero_code}
use Rattle.text_fields.specs.Fields.{◌>>=◌, Field, given, made_at, behind}

abbrev pub IsIn : ℕ → ℕ → ℕ → Type 0
IsIn lo hi n = (lo ≤ n) × (n ≤ hi)

-- more digits of a number that is n so far, up to hi
abbrev pub more_digits : ℕ → ℕ → List ℕ → Field ℕ
more_digits hi n [] = Some (n, [])
more_digits hi n (b ∷ bs) =
    if is_ascii_digit b
    then (if nat_le (10 * n + (b - zero_code)) hi then more_digits hi (10 * n + (b - zero_code)) bs else None)
    else Some (n, b ∷ bs)

-- a number of one digit or up to hi
abbrev pub number_at : ℕ → List ℕ → Field ℕ
number_at hi [] = None
number_at hi (b ∷ bs) =
    if b == zero_code then Some (0, bs)
    else (if is_ascii_digit b then more_digits hi (b - zero_code) bs else None)

abbrev pub in_range : ℕ → ℕ → ℕ → Option ℕ
in_range lo hi n = if nat_le lo n && nat_le n hi then Some n else None

-- a number from lo to hi
unfoldable pub number_in : ℕ → ℕ → List ℕ → Field ℕ
number_in lo hi bytes = number_at hi bytes >>= λ n. in_range lo hi n.0 >>= λ m. Some (m, n.1)

-- the greatest number of 64 bits
abbrev pub most_long : ℕ
most_long = 18446744073709551615

-- a number of 64 bits
abbrev pub long_at : List ℕ → Field ℕ
long_at = number_in 0 most_long

-- a number of 64 bits, or a dash
abbrev pub optional_at : List ℕ → Field (Option ℕ)
optional_at = behind (codes "-") (given None) (made_at Some long_at)

abbrev pub optional_text : Option ℕ → List ℕ
optional_text None = codes "-"
optional_text (Some n) = decimal n
