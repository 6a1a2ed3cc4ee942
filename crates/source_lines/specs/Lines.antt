-- Which lines are ignored, and the limits of lines.
use Rattle.std.specs.Prelude.{ℕ, Bool, true, List, [], ◌∷◌, ◌==◌}

-- an empty line, or a comment
abbrev pub is_ignored : List ℕ → Bool
is_ignored [] = true
is_ignored (b ∷ bs) = b == 35

-- the bytes that a line may have, the bytes that line 1 may have, and the lines that a source may have
abbrev pub most_line : ℕ
most_line = 4096

abbrev pub most_first_line : ℕ
most_first_line = 65536

abbrev pub most_lines : ℕ
most_lines = 2000000
