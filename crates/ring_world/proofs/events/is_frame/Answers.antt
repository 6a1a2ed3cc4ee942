use Rattle.std.proofs.Common.{arith, sym}
use Rattle.ring_world.proofs.Junk.{frame_is, frame_is_not}
use Rattle.ring_world.proofs.events.is_frame.Goals as goal

pub returns-in-Ok : goal.returns-in-Ok
returns-in-Ok c = sym (frame_is c.args.bytes.now c.in-Ok.field-0 c.in-Ok.ensures.0 c.in-Ok.ensures.1)

pub returns-in-Err : goal.returns-in-Err
returns-in-Err c = sym (frame_is_not c.args.bytes.now (λ k. omega (arith, c.type_inv.bytes k)) c.in-Err.ensures)
