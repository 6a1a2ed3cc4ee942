use Rattle.std.proofs.Common.{arith, refl}
use Rattle.fabric_turns.proofs.Hearing.{frame_not_read, frame_read}
use Rattle.serve_turns.proofs.Hearing.{no_frame_passes}
use Rattle.serve_turns.proofs.Turning.{hears_by}
use Rattle.serve_turns.proofs.datagrams.take_datagram.Goals as goal

pub returns-in-Err-clause-done : goal.returns-in-Err-clause-done
returns-in-Err-clause-done g c = λ o es p m.
    no_frame_passes c.args.service.now.plan o _ _ _ c.args.live.now es c.args.turn c.args.bytes.now p (frame_not_read c.args.bytes.now (λ k. omega (arith, c.type_inv.bytes k)) c.in-Err.ensures) m

pub returns-in-Ok-clause-done : goal.returns-in-Ok-clause-done
returns-in-Ok-clause-done g c = λ o es p m.
    c.act_told.ensures.done o es _ _ p refl m (hears_by c.args.service.now.plan o es c.args.turn c.args.bytes.now c.decode_into.new.message (frame_read c.args.bytes.now c.decode_into.new.message c.in-Ok.ensures.0 c.in-Ok.ensures.1))
