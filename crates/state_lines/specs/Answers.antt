-- The lines of an answer.
use Rattle.std.specs.Prelude.{ℕ, List, Option, flat_map}
use Rattle.door_lines.specs.Replies.{Says, reply_text}
use Rattle.door_lines.specs.Words.{Words, words_text}

-- one line of the answer with this tag
abbrev pub line_text : Option ℕ → Words → List ℕ
line_text tag words = reply_text (Says tag (words_text words))

-- its lines, one behind the other
abbrev pub lines_text : Option ℕ → List Words → List ℕ
lines_text tag lines = flat_map (line_text tag) lines
