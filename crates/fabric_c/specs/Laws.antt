-- What lines are to the bytes that they are of.
use Rattle.std.specs.Prelude.{◌≡◌, ℕ, List, Option, Some}
use Rattle.hex.specs.Hex.{IsBytes}

-- no two lists of bytes have one line
abbrev pub HaveOwnLines : (List ℕ → Option (List ℕ)) → Type 0
HaveOwnLines line_of = (a b line : List ℕ) → IsBytes a → IsBytes b → line_of a ≡ Some line → line_of b ≡ Some line → a ≡ b
