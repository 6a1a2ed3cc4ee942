-- Frames that are sent, one after the other.
use Rattle.std.specs.Prelude.{ℕ, ◌+◌, List, [], ◌∷◌, ◌==◌, if◌then◌else◌}
use Rattle.fabric_terms.specs.declared.message.Message.{Message}

-- these go on top of the frames
abbrev pub posted_all : List Message → List Message → List Message
posted_all [] frames = frames
posted_all (m ∷ ms) frames = posted_all ms (m ∷ frames)

-- the numbers of the first and the last of so many frames, after so many
abbrev pub numbers_after : ℕ → ℕ → ℕ × ℕ
numbers_after before count = if count == 0 then (0, 0) else (before + 1, before + count)
