-- What an entry of a log says about names.
use Rattle.std.specs.Prelude.{ℕ, ◌+◌, Bool, true, not, ◌&&◌, List, [], ◌∷◌, ◌++◌, length, take, drop, position, Option, Some, None, codes, ◌==◌, nat_le, if◌then◌else◌}
use Rattle.ring_points.specs.Limits.{most_name, most_name_value}
use Rattle.text_fields.specs.Fields.{behind, nothing}

-- every byte passes the test
abbrev pub every : (ℕ → Bool) → List ℕ → Bool
every test [] = true
every test (b ∷ bs) = test b && every test bs

-- a visible sign, but for the comma
abbrev pub is_name_byte : ℕ → Bool
is_name_byte b = nat_le 33 b && nat_le b 126 && not (b == 44)

-- one or more of these
abbrev pub is_name : List ℕ → Bool
is_name bytes = nat_le 1 (length bytes) && nat_le (length bytes) most_name && every is_name_byte bytes

-- a visible sign or a blank
abbrev pub is_value_byte : ℕ → Bool
is_value_byte b = nat_le 32 b && nat_le b 126

-- 1 to 400 of these
abbrev pub is_value : List ℕ → Bool
is_value bytes = nat_le 1 (length bytes) && nat_le (length bytes) most_name_value && every is_value_byte bytes

-- a name gets a value, or it has none any more
pub data Change : Type 0 where
  Sets : (name value : List ℕ) → Change
  Deletes : (name : List ℕ) → Change

-- how it is spelled
abbrev pub change_text : Change → List ℕ
change_text (Sets name value) = codes "set " ++ (name ++ (codes " " ++ value))
change_text (Deletes name) = codes "del " ++ name

abbrev pub sets : List ℕ → List ℕ → Option Change
sets name value = if is_name name && is_value value then Some (Sets name value) else None

-- a name, up to the first blank, and behind it a value
abbrev pub sets_at : List ℕ → Option ℕ → Option Change
sets_at bytes None = None
sets_at bytes (Some blank) = sets (take blank bytes) (drop (blank + 1) bytes)

abbrev pub set_of : List ℕ → Option Change
set_of bytes = sets_at bytes (position (λ b. b == 32) bytes)

abbrev pub delete_of : List ℕ → Option Change
delete_of bytes = if is_name bytes then Some (Deletes bytes) else None

-- what the bytes of an entry change, if they are about names at all
unfoldable pub change_of : List ℕ → Option Change
change_of = behind (codes "set ") set_of (behind (codes "del ") delete_of nothing)
