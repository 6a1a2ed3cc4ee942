-- Points of the ring: 16 hexadecimal digits, `0` to `9` and `a` to `f`.
use Rattle.std.specs.Prelude.{ℕ, zero, suc, ◌+◌, ◌-◌, ◌*◌, ◌/◌, ◌%◌, ◌&&◌, List, [], ◌∷◌, ◌++◌, Option, Some, None, nat_le, nat_lt, if◌then◌else◌}
use Rattle.text_fields.specs.Codes.{zero_code, nine_code, a_code, f_code}
use Rattle.text_fields.specs.Fields.{◌>>=◌, Field}

-- the code of a letter without what the letter stands for
abbrev pub letter_code : ℕ
letter_code = a_code - 10

abbrev pub hex_value : ℕ → Option ℕ
hex_value b =
    if nat_le zero_code b && nat_le b nine_code then Some (b - zero_code)
    else (if nat_le a_code b && nat_le b f_code then Some (b - letter_code) else None)

-- n, and k digits behind it
abbrev pub hex_at : ℕ → ℕ → List ℕ → Field ℕ
hex_at zero n bytes = Some (n, bytes)
hex_at (suc k) n [] = None
hex_at (suc k) n (b ∷ bs) = hex_value b >>= λ d. hex_at k (16 * n + d) bs

abbrev pub point_digits : ℕ
point_digits = 16

-- a point of the ring
unfoldable pub point_at : List ℕ → Field ℕ
point_at = hex_at point_digits 0

abbrev pub hex_digit : ℕ → ℕ
hex_digit d = if nat_lt d 10 then zero_code + d else letter_code + d

-- the last k hexadecimal digits of n
abbrev pub hex_text : ℕ → ℕ → List ℕ
hex_text zero n = []
hex_text (suc k) n = hex_text k (n / 16) ++ hex_digit (n % 16) ∷ []

unfoldable pub point_text : ℕ → List ℕ
point_text p = hex_text point_digits p
