-- What an instance owns of the ring, and what it announces.
use Rattle.std.specs.Prelude.{ℕ, ◌+◌, false, cond, ◌==◌, Option, None, Some}
use Rattle.ring_machine.specs.Points.{Points, minus}

-- a part that is to be given in the session of this own number, since this version
pub record Freeze : Type 0 where
  pub part : Points
  pub number : ℕ
  pub version : ℕ

-- the version grows with each change of what is announced; next_flight is the number of the next flight
pub record Token : Type 0 where
  pub ranges : Points
  pub version : ℕ
  pub freeze : Option Freeze
  pub next_flight : ℕ

abbrev pub frozen : Option Freeze → Points
frozen None p = false
frozen (Some freeze) p = freeze.part p

-- the ranges without the frozen part
abbrev pub announced : Token → Points
announced token = minus token.ranges (frozen token.freeze)

-- the token whose freeze, if it is for the slot, is undone
abbrev pub undone : ℕ → Token → Option Freeze → Token
undone number token None = token
undone number token (Some freeze) =
    cond (freeze.number == number) (record token { version = token.version + 1; freeze = None }) token
