-- What a caller has after a reply: its room, a length and a code.
use Rattle.std.specs.Prelude.{◌≡◌, ℕ, List, ◌++◌, length, drop, nat_le, if◌then◌else◌}
use Rattle.fabric_c.specs.Codes.{no_room}

-- the room, with the text at its front where it has a place
abbrev pub room_after : List ℕ → List ℕ → List ℕ
room_after text old = if nat_le (length text) (length old) then text ++ drop (length text) old else old

-- the code of the reply where its text has a place
abbrev pub code_after : List ℕ → ℕ → List ℕ → ℕ
code_after text code old = if nat_le (length text) (length old) then code else no_room

-- a reply was handed out: its text is in the room, or the room is as it was; the length is the text's either way
pub record HandedOut (text : List ℕ) (code : ℕ) (old new : List ℕ) (needed answered : ℕ) : Type 0 where
  pub told : needed ≡ length text
  pub filled : new ≡ room_after text old
  pub ended : answered ≡ code_after text code old

-- one of these replies was handed out
pub record Handed (IsReply : List ℕ → ℕ → Type 0) (old new : List ℕ) (needed answered : ℕ) : Type 0 where
  pub text : List ℕ
  pub code : ℕ
  pub reply : IsReply text code
  pub handed : HandedOut text code old new needed answered
