-- What comes to the actors of a running program, one thing after another.
use Rattle.std.specs.Prelude.{ℕ, List, Option}
use Rattle.fabric_terms.specs.declared.command.Command.{Command}

-- what the links answer when they are asked what has arrived
pub data LinkAnswer : Type 0 where
  Datagram : (bytes : List ℕ) → LinkAnswer
  Absent : LinkAnswer
  Failed : LinkAnswer

-- What comes to an actor: its start, a node's with a reading; a node's turn, with a reading; a command; an answer of the
-- links; a firing; the end of a turn without a firing.
pub data Comes : Type 0 where
  Begins : (reading : Option ℕ) → Comes
  Turns : (reading : ℕ) → Comes
  Bids : (command : Command) → Comes
  Hears : (answer : LinkAnswer) → Comes
  Fires : Comes
  Rests : Comes

-- in which turn it comes, and to whom: the actor's place in the order of turns
pub record Happening : Type 0 where
  pub turn : ℕ
  pub place : ℕ
  pub comes : Comes

-- the newest first
abbrev pub History : Type 0
History = List Happening
