-- The line of a frame, by what its reader says.
use Rattle.std.proofs.Common.{◌≡◌, ◌≢◌, ℕ, List, Option, Some, None, ap, sym, refl, ◌∙◌}
use Rattle.std.specs.Prelude.{IsTrue, option_map}
use Rattle.fabric_terms.specs.declared.message.Message.{Message}
use Rattle.fabric_terms.specs.Messages.{is_sound}
use Rattle.frame_format.specs.Frames.{spelling}
use Rattle.frame_format.specs.Kinds.{message_of}
use Rattle.frame_format.proofs.FrameLaws.{message_found, message_again}
use Rattle.wire_fields.proofs.Numbers.{AreBytes}
use Rattle.fabric_c.specs.Lines.{frame_line, frame_words}

pub line_is : (bytes : List ℕ) (m : Message) → IsTrue (is_sound m) → spelling m ≡ bytes → frame_line bytes ≡ Some (frame_words bytes m)
line_is bytes m sound is = ap (option_map (frame_words bytes)) (ap message_of (sym is) ∙ message_again m sound)

pub no_line : (bytes : List ℕ) → AreBytes bytes → ((m : Message) → IsTrue (is_sound m) → spelling m ≢ bytes) → frame_line bytes ≡ None
no_line bytes are none = by (message_of bytes) refl
  where
    by : (o : Option Message) → message_of bytes ≡ o → frame_line bytes ≡ None
    by None e = ap (option_map (frame_words bytes)) e
    by (Some m) e = let f = message_found bytes m are e in absurd (none m f.0 f.1)
