-- Frames as they were sent, and the frame of a number.
use Rattle.std.specs.Prelude.{ℕ, ◌-◌, Bool, true, false, ◌&&◌, List, length, Option, None, nat_le, slice_get}
use Rattle.fabric_terms.specs.declared.message.Message.{Message}

-- the messages, the newest first, and for how many more there is room
pub record Bag : Type 0 where
  pub frames : List Message
  pub room : ℕ

abbrev pub frame_if : ℕ → List Message → Bool → Option Message
frame_if number frames true = slice_get frames (length frames - number)
frame_if number frames false = None

-- the frame of this number, from 1
abbrev pub frame_of : ℕ → List Message → Option Message
frame_of number frames = frame_if number frames (nat_le 1 number && nat_le number (length frames))
