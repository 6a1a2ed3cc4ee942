-- What is read as a frame is the frame, and what is not read is none.
use Rattle.std.proofs.Common.{◌≡◌, ◌≢◌, ℕ, List, Option, Some, None, refl, ap, sym, ◌∙◌}
use Rattle.std.specs.Prelude.{IsTrue}
use Rattle.fabric_terms.specs.Messages.{is_sound}
use Rattle.fabric_terms.specs.declared.message.Message.{Message}
use Rattle.frame_format.proofs.FrameLaws.{message_again, message_found}
use Rattle.frame_format.specs.Frames.{spelling}
use Rattle.frame_format.specs.Kinds.{message_of}
use Rattle.wire_fields.proofs.Numbers.{AreBytes}

pub frame_read : (bytes : List ℕ) (m : Message) → IsTrue (is_sound m) → spelling m ≡ bytes → message_of bytes ≡ Some m
frame_read bytes m sound same = ap message_of (sym same) ∙ message_again m sound

pub frame_not_read : (bytes : List ℕ) → AreBytes bytes → ((m : Message) → IsTrue (is_sound m) → spelling m ≢ bytes) → message_of bytes ≡ None
frame_not_read bytes h none = by (message_of bytes) refl
  where
    by : (o : Option Message) → message_of bytes ≡ o → o ≡ None
    by None e = refl
    by (Some m) e = let k = message_found bytes m h e in absurd (none m k.0 k.1)
