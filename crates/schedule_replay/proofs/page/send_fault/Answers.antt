use Rattle.std.proofs.Common.{List, ℕ, Err, ap, refl, subst, inl, inr}
use Rattle.fabric_status.specs.Faults.{fault_line}
use Rattle.schedule_rules.specs.Halts.{Wrote, WroteFault}
use Rattle.schedule_replay.proofs.Faults.{fault_behind, front_on}
use Rattle.schedule_replay.proofs.page.send_fault.Goals as goal

pub returns-in-Ok : goal.returns-in-Ok
returns-in-Ok g c =
    let written = subst (λ (t : List ℕ). WroteFault c.args.status t c.write_fault.result (g.K.Sink.held c.send_waiting.new.sink) (g.K.Sink.held c.write_fault.new.sink) (g.K.Sink.faults c.send_waiting.new.sink) (g.K.Sink.faults c.write_fault.new.sink)) c.send_waiting.ensures.emptied c.write_fault.ensures in
    let sent = subst (λ (t : List ℕ). Wrote (g.K.Sink.held c.args.sink.now) (g.K.Sink.held c.send_waiting.new.sink) t c.args.text.now.items) c.send_waiting.ensures.emptied c.in-Ok.ensures.sent in
    fault_behind c.args.status c.write_fault.result (g.K.Sink.held c.args.sink.now) (g.K.Sink.held c.send_waiting.new.sink) (g.K.Sink.held c.write_fault.new.sink) c.args.text.now.items (g.K.Sink.faults c.args.sink.now) (g.K.Sink.faults c.send_waiting.new.sink) (g.K.Sink.faults c.write_fault.new.sink) c.send_waiting.ensures.cause.later sent written

pub returns-in-Err-Failed : goal.returns-in-Err-Failed
returns-in-Err-Failed g c = inr (inr (refl, front_on (g.K.Sink.held c.args.sink.now) (g.K.Sink.held c.send_waiting.new.sink) c.args.text.now.items (fault_line c.args.status) c.in-Err-Failed.ensures.sent, c.in-Err-Failed.ensures.cause.failed (ap Err c.in-Err-Failed.field-0-is)))

pub returns-in-Err-OutOfMemory : goal.returns-in-Err-OutOfMemory
returns-in-Err-OutOfMemory g c = inr (inl (refl, front_on (g.K.Sink.held c.args.sink.now) (g.K.Sink.held c.send_waiting.new.sink) c.args.text.now.items (fault_line c.args.status) c.in-Err-OutOfMemory.ensures.sent))
