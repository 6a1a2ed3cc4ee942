-- What a reader of lines has taken of its source, and what it takes next.
use Rattle.std.specs.Prelude.{◌≡◌, ◌≢◌, ◌⊎◌, ℕ, ◌<◌, ◌≤◌, ◌==◌, Bool, ◌&&◌, not, List, [], ◌∷◌, ◌++◌, length, position, Option, Some, None, is_none, Result, Ok, Err}
use Rattle.edge_io.specs.declared.refusal.Failed.{Failed}
use Rattle.line_format.specs.Lines.{lines_of}
use Rattle.source_lines.specs.Feeds.{HasNoFeed}
use Rattle.source_lines.specs.declared.next_line.NextLine.{NextLine}
use Rattle.source_lines.specs.declared.next_line.NextLine.TheVariants.{Line, TooLong, End}

-- the bytes that were read and not yet taken; the line that was taken last, without and with its line feed; how many bytes
-- the room has; and whether the room is full and as long as it gets, so that the last piece had as many bytes as were asked for
pub record Reading : Type 0 where
  pub waiting : List ℕ
  pub line : List ℕ
  pub whole : List ℕ
  pub long : ℕ
  pub filled : Bool

-- no whole line waits, and the last piece was not filled
abbrev pub may_wait : Reading → Bool
may_wait r = not r.filled && is_none (position (λ b. b == 10) r.waiting)

-- where a whole line waits, this is so
abbrev pub LeavesUnread : Reading → Type 0 → Type 0
LeavesUnread r Unread = position (λ b. b == 10) r.waiting ≢ None → Unread

-- the first line of these bytes is longer than so much
pub record BeginsLonger (most : ℕ) (bytes : List ℕ) : Type 0 where
  pub line : List ℕ
  pub others : List (List ℕ)
  pub cut : lines_of bytes ≡ line ∷ others
  pub longer : most < length line

-- What is taken of the bytes that were left, and what is left then: the first line, if it is no longer than so much; else
-- nothing. The end is where nothing was left. A source that failed cost nothing: all whole lines had been taken before.
abbrev pub Takes : Result NextLine Failed → ℕ → List ℕ → Reading → List ℕ → Type 0
Takes (Ok Line) most left new rest = (lines_of left ≡ new.line ∷ lines_of rest) × (length new.line ≤ most)
Takes (Ok TooLong) most left new rest = BeginsLonger most left × (rest ≡ left)
Takes (Ok End) most left new rest = (left ≡ []) × (rest ≡ [])
Takes (Err failed) most left new rest = HasNoFeed new.waiting × (rest ≡ left)

-- the line with its line feed; the last line of all may have none
abbrev pub IsWhole : List ℕ → List ℕ → List ℕ → Type 0
IsWhole line whole rest = (whole ≡ line ++ (10 ∷ [])) ⊎ ((whole ≡ line) × (rest ≡ []))

-- a line that is taken is the front of what was left, with its line feed
abbrev pub TakesWhole : Result NextLine Failed → List ℕ → Reading → List ℕ → Type 0
TakesWhole (Ok Line) left new rest = (left ≡ new.whole ++ rest) × IsWhole new.line new.whole rest
TakesWhole (Ok TooLong) left new rest = Unit {0}
TakesWhole (Ok End) left new rest = Unit {0}
TakesWhole (Err failed) left new rest = Unit {0}

-- a line that is taken has no line feed and no more bytes than so many, whether or not the source tells
abbrev pub IsLineOf : Result NextLine Failed → ℕ → List ℕ → Type 0
IsLineOf (Ok Line) most line = HasNoFeed line × (length line ≤ most)
IsLineOf (Ok TooLong) most line = Unit {0}
IsLineOf (Ok End) most line = Unit {0}
IsLineOf (Err failed) most line = Unit {0}

-- where the source tells: what was left is what waits and what the source has left
abbrev pub TakesOf : Result NextLine Failed → ℕ → Reading → Option (List ℕ) → Reading → Option (List ℕ) → Type 0
TakesOf result most old before new after =
    (bytes : List ℕ) → before ≡ Some bytes
    → (rest : List ℕ) × (after ≡ Some rest) × Takes result most (old.waiting ++ bytes) new (new.waiting ++ rest) × TakesWhole result (old.waiting ++ bytes) new (new.waiting ++ rest)
