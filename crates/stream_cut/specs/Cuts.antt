-- The lines of a stream, byte by byte, and what a cutter has inside.
use Rattle.std.specs.Prelude.{◌≡◌, ℕ, ◌==◌, Bool, true, false, List, [], ◌∷◌, ◌++◌, length, Option, Some, None, if◌then◌else◌}
use Rattle.stream_cut.specs.declared.cut.Cut.{Cut}
use Rattle.stream_cut.specs.declared.cut.Cut.TheVariants.{Line, TooLong, More}

-- a line without its line feed, or one that is longer than was allowed
pub data Piece : Type 0 where
  Whole : List ℕ → Piece
  Long : Piece

-- The lines of these bytes, of at most so many bytes each. Before them stands the begin of a line, or None where the rest
-- of one that is too long is skipped. A line without its line feed at the end is dropped.
abbrev pub cuts : ℕ → Option (List ℕ) → List ℕ → List Piece
cuts most begun [] = []
cuts most None (b ∷ bs) = cuts most (if b == 10 then Some [] else None) bs
cuts most (Some line) (b ∷ bs) = if b == 10 then Whole line ∷ cuts most (Some []) bs else (if length line == most then Long ∷ cuts most None bs else cuts most (Some (line ++ b ∷ [])) bs)

-- the bytes that were taken and not yet cut, the line that was cut last, whether the rest of a line is skipped, and how
-- many bytes a line may have
pub record Stream : Type 0 where
  pub waiting : List ℕ
  pub line : List ℕ
  pub skips : Bool
  pub most : ℕ

abbrev pub begun : Bool → Option (List ℕ)
begun true = None
begun false = Some []

-- what is still to come out, with these bytes more
abbrev pub cuts_with : Stream → List ℕ → List Piece
cuts_with s more = cuts s.most (begun s.skips) (s.waiting ++ more)

-- what a call gives
abbrev pub piece_of : Cut → List ℕ → List Piece
piece_of Line line = Whole line ∷ []
piece_of TooLong line = Long ∷ []
piece_of More line = []

-- What a call gives is the first of what was to come, whatever follows; the rest is still to come.
abbrev pub Gives : Cut → Stream → Stream → Type 0
Gives cut old new = (more : List ℕ) → cuts_with old more ≡ piece_of cut new.line ++ cuts_with new more

-- What came out, and what is still inside, are the lines of the bytes that came in.
abbrev pub Came : List ℕ → List Piece → Stream → Type 0
Came bytes out s = (more : List ℕ) → cuts s.most (Some []) (bytes ++ more) ≡ out ++ cuts_with s more
