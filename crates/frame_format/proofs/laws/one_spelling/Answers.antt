use Rattle.std.proofs.Common.{ap, sym, ◌∙◌}
use Rattle.frame_format.specs.Kinds.{message_of}
use Rattle.wire_fields.proofs.Forms.{some_same}
use Rattle.frame_format.proofs.FrameLaws.{message_again}
use Rattle.frame_format.proofs.laws.one_spelling.Goals as goal

pub returns : goal.returns
returns c =
    λ m n h i e. some_same m n (sym (message_again m h) ∙ (ap message_of e ∙ message_again n i))
