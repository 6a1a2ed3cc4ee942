-- Points in the text: 16 digits `0-9a-f`.
use Rattle.std.specs.Prelude.{ℕ, ◌+◌, ◌-◌, ◌*◌, ◌&&◌, ◌==◌, List, [], ◌∷◌, length, Option, Some, None, option_map, option_and_then, nat_le, if◌then◌else◌}
use Rattle.ring_points.specs.declared.point.Point.{Point}

abbrev pub digit_of : ℕ → Option ℕ
digit_of b =
    if nat_le 48 b && nat_le b 57 then Some (b - 48)
    else (if nat_le 97 b && nat_le b 102 then Some (b - 97 + 10) else None)

-- n, with the digits behind it
abbrev pub digits_from : ℕ → List ℕ → Option ℕ
digits_from n [] = Some n
digits_from n (b ∷ bs) = option_and_then (λ d. digits_from (16 * n + d) bs) (digit_of b)

abbrev pub point : ℕ → Point
point n = record { 0 = n }

unfoldable pub point_of : List ℕ → Option Point
point_of bytes = if length bytes == 16 then option_map point (digits_from 0 bytes) else None
