-- Names of the name service, what they stand for, and their lists.
use Rattle.std.specs.Prelude.{◌≡◌, ℕ, suc, Bool, false, not, ◌&&◌, List, [], ◌∷◌, take, drop, Some, None, nat_le, ◌==◌, if◌then◌else◌}
use Rattle.ring_points.specs.Limits.{most_name}
use Rattle.text_fields.specs.Codes.{first_sign_code, last_sign_code, comma_code}
use Rattle.text_fields.specs.Fields.{Field}

-- a visible sign, but for the comma
abbrev pub is_name_byte : ℕ → Bool
is_name_byte b = nat_le first_sign_code b && nat_le b last_sign_code && not (b == comma_code)

-- how many bytes at the front a name can have
abbrev pub name_length : List ℕ → ℕ
name_length [] = 0
name_length (b ∷ bs) = if is_name_byte b then suc (name_length bs) else 0

-- a name: some such bytes, as many as stand there
unfoldable pub name_at : List ℕ → Field (List ℕ)
name_at bytes =
    if nat_le 1 (name_length bytes) && nat_le (name_length bytes) most_name
    then Some (take (name_length bytes) bytes, drop (name_length bytes) bytes)
    else None

-- what does not go on with a name
abbrev pub EndsName : List ℕ → Type 0
EndsName [] = Unit {0}
EndsName (b ∷ bs) = is_name_byte b ≡ false

-- bytes as they are
abbrev pub as_they_are : List ℕ → List ℕ
as_they_are bytes = bytes
