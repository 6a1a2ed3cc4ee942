-- What moves over a connection.
use Rattle.std.specs.Prelude.{ℕ, ◌≤◌}
use Rattle.serve_edge.specs.declared.wire.Moved.{Moved}
use Rattle.serve_edge.specs.declared.wire.Moved.TheVariants as moved

-- no more bytes than these
abbrev pub MovesAtMost : ℕ → Moved → Type 0
MovesAtMost most (moved.Bytes count) = count ≤ most
MovesAtMost most _ = Unit {0}
