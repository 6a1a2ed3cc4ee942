-- What was pushed is what is taken, in order, but for the lines that were dropped, and these are counted.
use Rattle.std.specs.Prelude.{◌≡◌, ℕ, ◌+◌, Bool, true, false, List, [], ◌∷◌, ◌++◌, if◌then◌else◌}
use Rattle.log_lines.specs.Queues.{Queue, notice}

-- a line that was pushed, with its time, and whether it found room
pub record Push : Type 0 where
  pub line : List ℕ
  pub found_room : Bool

-- what the log has: a line, or a notice of dropped lines
pub data Piece : Type 0 where
  Line : (line : List ℕ) → Piece
  Notice : (time : List ℕ) (count : ℕ) → Piece

-- Pushes and pieces are lists, the newest first.

abbrev pub kept_or : Bool → List ℕ → List (List ℕ) → List (List ℕ)
kept_or true line before = line ∷ before
kept_or false line before = before

-- the lines that found room
abbrev pub kept : List Push → List (List ℕ)
kept [] = []
kept (p ∷ before) = kept_or p.found_room p.line (kept before)

-- how many lines found none
abbrev pub lost : List Push → ℕ
lost [] = 0
lost (p ∷ before) = if p.found_room then lost before else lost before + 1

abbrev pub text : List Piece → List ℕ
text [] = []
text (Line line ∷ before) = text before ++ line
text (Notice time count ∷ before) = text before ++ notice time count

abbrev pub lines : List Piece → List (List ℕ)
lines [] = []
lines (Line line ∷ before) = line ∷ lines before
lines (Notice time count ∷ before) = lines before

-- how many lines the notices count
abbrev pub noticed : List Piece → ℕ
noticed [] = 0
noticed (Line line ∷ before) = noticed before
noticed (Notice time count ∷ before) = count + noticed before

-- After these pushes these bytes were taken, and the queue has the rest.
pub record Went (pushes : List Push) (taken : List ℕ) (q : Queue) : Type 0 where
  pub pieces : List Piece
  pub bytes : taken ++ q.bytes ≡ text pieces
  pub in_order : lines pieces ≡ kept pushes
  pub counted : noticed pieces + q.dropped ≡ lost pushes
