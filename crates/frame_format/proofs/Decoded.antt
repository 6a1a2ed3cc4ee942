-- What a reader that gives the message of a frame says of the frame.
use Rattle.std.proofs.Common.{◌≡◌, ◌≢◌, List, ℕ, Ok, Err, Result, ap}
use Rattle.std.specs.Prelude.{IsTrue, MatchResult}
use Rattle.fabric_terms.specs.declared.message.Message.{Message}
use Rattle.fabric_terms.specs.Messages.{is_sound}
use Rattle.frame_format.specs.Frames.{spelling}
use Rattle.wire_fields.specs.Readers.{Fills}
use Rattle.frame_format.specs.Kinds.{message_of}
use Rattle.wire_fields.proofs.Numbers.{AreBytes}
use Rattle.frame_format.proofs.FrameLaws.{message_found, message_again}

pub decoded : {X E : Type 0} (frame : List ℕ) (read : Result X E) (message : Message) → AreBytes frame → Fills read message (message_of frame) → MatchResult read (λ _. IsTrue (is_sound message) × (spelling message ≡ frame)) (λ _. (m : Message) → IsTrue (is_sound m) → spelling m ≢ frame)
decoded frame (Ok x) message h e = message_found frame message h e
decoded {X} {E} frame (Err x) message h e = λ m sound same. let g = message_again m sound in let f = ap message_of same in cc
