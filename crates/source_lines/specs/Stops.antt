-- What stands in the room of a reader where it reads no more pieces.
use Rattle.std.specs.Prelude.{◌≡◌, ℕ, ◌+◌, ◌<◌, ◌≤◌, ◌==◌, List, [], length, take, drop, position, Some, Result, Ok, Err}
use Rattle.edge_io.specs.declared.refusal.Failed.{Failed}
use Rattle.source_lines.specs.Feeds.{HasNoFeed}
use Rattle.source_lines.specs.Reading.{Reading}
use Rattle.source_lines.specs.declared.next_line.NextLine.{NextLine}
use Rattle.source_lines.specs.declared.next_line.NextLine.TheVariants.{Line, TooLong, End}
use Rattle.source_lines.specs.declared.piece.PieceEnd.{PieceEnd}
use Rattle.source_lines.specs.declared.piece.PieceEnd.TheVariants.{Feed, Ended, Full}

abbrev pub StopsAt : Result PieceEnd Failed → ℕ → List ℕ → Type 0
StopsAt (Ok (Feed i)) most bytes = position (λ b. b == 10) bytes ≡ Some i
StopsAt (Ok Ended) most bytes = HasNoFeed bytes × (length bytes ≤ most)
StopsAt (Ok Full) most bytes = HasNoFeed bytes × (most < length bytes)
StopsAt (Err failed) most bytes = HasNoFeed bytes

-- what is taken up to a feed that waits
abbrev pub TakesTo : NextLine → ℕ → ℕ → Reading → Reading → Type 0
TakesTo Line feed most old new = (feed ≤ most) × (new.line ≡ take feed old.waiting) × (new.waiting ≡ drop (feed + 1) old.waiting) × (new.whole ≡ take (feed + 1) old.waiting)
TakesTo TooLong feed most old new = (most < feed) × (new.waiting ≡ old.waiting)
TakesTo End feed most old new = ⊥

-- what is taken where no feed waits and nothing comes any more
abbrev pub TakesLast : NextLine → Reading → Reading → Type 0
TakesLast Line old new = (0 < length old.waiting) × (new.line ≡ old.waiting) × (new.waiting ≡ []) × (new.whole ≡ old.waiting)
TakesLast TooLong old new = ⊥
TakesLast End old new = (old.waiting ≡ []) × (new.waiting ≡ [])
