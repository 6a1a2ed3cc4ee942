-- What comes to a served process.
use Rattle.std.specs.Prelude.{ℕ, List, Option, Some, None}
use Rattle.fabric_terms.specs.declared.command.Command.{Command}
use Rattle.fabric_terms.specs.declared.command.Command.TheVariants as command
use Rattle.fabric_terms.specs.declared.message.Message.{Message}
use Rattle.frame_format.specs.Kinds.{message_of}
use Rattle.ring_points.specs.declared.point.Point.{Point}
use Rattle.ring_rules.specs.declared.input.Input.{Input}
use Rattle.ring_rules.specs.declared.input.Input.TheVariants as input
use Rattle.turn_rules.specs.Happenings.{Bids, Comes, Datagram, Fires, Hears}

pub data Coming : Type 0 where
  -- of a turn: a start, a reading, an answer of the links, a firing, or the end of a turn without one
  OfTurn : (comes : Comes) → Coming
  -- a line of a client; None is one that is too long
  Asked : (client : ℕ) (line : Option (List ℕ)) → Coming
  -- a client has gone
  Gone : (client : ℕ) → Coming
  -- a command of the policy
  Advised : (command : Command) → Coming

-- in which turn it comes
pub record Event : Type 0 where
  pub turn : ℕ
  pub coming : Coming

abbrev pub frame_in : Option Message → Option Input
frame_in None = None
frame_in (Some m) = Some (input.Frame m)

-- the input of the step that it makes, if it makes one by an input
abbrev pub input_of : Comes → Option Input
input_of (Bids c) = Some (input.Do c)
input_of (Hears (Datagram bytes)) = frame_in (message_of bytes)
input_of Fires = Some input.Fire
input_of _ = None

-- the point that a command asks about
abbrev pub sought_by : Command → Option Point
sought_by (command.Find key) = Some key
sought_by _ = None
