use Rattle.std.proofs.Common.{arith, ap, sym, ◌∙◌}
use Rattle.frame_hold.specs.OneLength.{names_length, read_length}
use Rattle.frame_hold.proofs.Reading.{frame_not_read, frame_read}
use Rattle.frame_hold.proofs.frames.names_length.Goals as goal

pub returns-in-Ok : goal.returns-in-Ok
unfolding names_length
returns-in-Ok c = c.has_length.ensures ∙ ap read_length (sym (frame_read c.args.bytes.now c.in-Ok.message c.in-Ok.ensures.0 c.in-Ok.ensures.1))

pub returns-in-Err : goal.returns-in-Err
unfolding names_length
returns-in-Err c = ap read_length (sym (frame_not_read c.args.bytes.now (λ k. omega (arith, c.type_inv.bytes k)) c.in-Err.ensures))
