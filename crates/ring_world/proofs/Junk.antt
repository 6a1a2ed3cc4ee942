-- Which bytes are a frame.
use Rattle.std.proofs.Common.{◌≡◌, ◌≢◌, ℕ, true, false, List, Option, Some, None, refl, sym, ap, ◌∙◌}
use Rattle.std.specs.Prelude.{is_some, IsTrue}
use Rattle.fabric_terms.specs.declared.message.Message.{Message}
use Rattle.fabric_terms.specs.Messages.{is_sound}
use Rattle.frame_format.specs.Frames.{spelling}
use Rattle.frame_format.specs.Kinds.{is_frame, message_of}
use Rattle.frame_format.proofs.FrameLaws.{message_again, message_found}
use Rattle.wire_fields.proofs.Numbers.{AreBytes}

pub frame_is : (bytes : List ℕ) (m : Message) → IsTrue (is_sound m) → spelling m ≡ bytes → is_frame bytes ≡ true
frame_is bytes m sound same = ap (λ o. is_some o) (ap message_of (sym same) ∙ message_again m sound)

pub frame_is_not : (bytes : List ℕ) → AreBytes bytes → ((m : Message) → IsTrue (is_sound m) → spelling m ≢ bytes) → is_frame bytes ≡ false
frame_is_not bytes h none = by_value (message_of bytes) refl
  where
    by_value : (o : Option Message) → message_of bytes ≡ o → is_some o ≡ false
    by_value None e = refl
    by_value (Some m) e = let found = message_found bytes m h e in absurd (none m found.0 found.1)
