-- How frames lie in one run of bytes, the oldest first.
use Rattle.std.specs.Prelude.{◌≡◌, ℕ, ◌+◌, List, [], ◌∷◌, length, map, slice_range, All, IsTrue}
use Rattle.std.specs.List.{filter_map, concat}
use Rattle.fabric_terms.specs.declared.message.Message.{Message}
use Rattle.fabric_terms.specs.Messages.{is_sound}
use Rattle.frame_format.specs.Frames.{spelling}
use Rattle.frame_format.specs.Kinds.{message_of}

-- the bytes of each frame: from where the frame before it ends to where it ends
abbrev pub cut : ℕ → List ℕ → List ℕ → List (List ℕ)
cut from [] bytes = []
cut from (end ∷ ends) bytes = slice_range bytes from end ∷ cut end ends bytes

-- the messages of the frames
abbrev pub messages_in : List ℕ → List ℕ → List Message
messages_in ends bytes = filter_map message_of (cut 0 ends bytes)

-- where these frames end, if the first begins here
abbrev pub ends_of : ℕ → List (List ℕ) → List ℕ
ends_of from [] = []
ends_of from (frame ∷ frames) =
    (from + length frame) ∷ ends_of (from + length frame) frames

-- the bytes are the frames of these messages, one after the other, and each end is where one of them ends
pub record AreFrames (ends bytes : List ℕ) (messages : List Message) : Type 0 where
  pub sound : All (λ m. IsTrue (is_sound m)) messages
  pub bytes_are : bytes ≡ concat (map spelling messages)
  pub ends_are : ends ≡ ends_of 0 (map spelling messages)
