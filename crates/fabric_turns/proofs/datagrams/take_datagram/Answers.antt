use Rattle.std.proofs.Common.{arith, ap, Option}
use Rattle.fabric_terms.specs.declared.message.Message.{Message}
use Rattle.fabric_turns.proofs.Hearing.{frame_not_read, frame_read, no_frame}
use Rattle.fabric_turns.proofs.datagrams.take_datagram.Goals as goal
use Rattle.turn_rules.specs.Process.{after, hears_frame}
use Rattle.turn_rules.specs.Whole.{setting}

pub returns-in-Err-clause-done : goal.returns-in-Err-clause-done
returns-in-Err-clause-done g c = λ kept a h p m.
    no_frame (setting c.args.plan.now kept) a _ c.args.run.now h c.args.at.turn.number c.args.at.place c.args.bytes.now p (frame_not_read c.args.bytes.now (λ k. omega (arith, c.type_inv.bytes k)) c.in-Err.ensures) m

pub returns-in-Ok-clause-done : goal.returns-in-Ok-clause-done
returns-in-Ok-clause-done g c = λ kept a h p m.
    c.act.ensures.done kept a h _ p m
    (ap (λ (o : Option Message). hears_frame (setting c.args.plan.now kept) c.args.at.turn.number (after (setting c.args.plan.now kept) h) c.args.at.place o)
    (frame_read c.args.bytes.now c.decode_into.new.message c.in-Ok.ensures.0 c.in-Ok.ensures.1))
