use Rattle.std.proofs.Common.{arith, ap, sym, ◌∙◌}
use Rattle.frame_hold.specs.Waits.{frame_waits, read_waits}
use Rattle.frame_hold.proofs.Reading.{frame_not_read, frame_read}
use Rattle.frame_hold.proofs.frames.frame_waits.Goals as goal

pub returns-in-Ok : goal.returns-in-Ok
unfolding frame_waits
returns-in-Ok c = c.waits.ensures ∙ ap (read_waits c.args.holding.now) (sym (frame_read c.args.bytes.now c.in-Ok.message c.in-Ok.ensures.0 c.in-Ok.ensures.1))

pub returns-in-Err : goal.returns-in-Err
unfolding frame_waits
returns-in-Err c = ap (read_waits c.args.holding.now) (sym (frame_not_read c.args.bytes.now (λ k. omega (arith, c.type_inv.bytes k)) c.in-Err.ensures))
