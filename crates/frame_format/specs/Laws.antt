-- What holds of frames as bytes.
use Rattle.std.specs.Prelude.{◌≡◌, ◌≤◌, length, IsTrue}
use Rattle.ring_points.specs.Limits.{most_frame}
use Rattle.fabric_terms.specs.declared.message.Message.{Message}
use Rattle.fabric_terms.specs.Messages.{is_sound}
use Rattle.frame_format.specs.Frames.{spelling}

-- a message of the grammar has no spelling of another, and no more bytes than a frame has
abbrev pub OneSpelling : Type 0
OneSpelling = (m n : Message) → IsTrue (is_sound m) → IsTrue (is_sound n) → spelling m ≡ spelling n → m ≡ n

abbrev pub ShortSpelling : Type 0
ShortSpelling = (m : Message) → IsTrue (is_sound m) → length (spelling m) ≤ most_frame
