use Rattle.std.proofs.Common.{◌++◌, ap, subst, sym, refl, List, ℕ, Err, IsTrue, inl}
use Rattle.edge_io.specs.Edge.{HasRisen}
use Rattle.fabric_status.specs.Faults.{fault_line}
use Rattle.fabric_status.specs.Writes.{Wrote as Written}
use Rattle.fabric_status.specs.declared.status.Status.{Status}
use Rattle.fabric_status.specs.declared.status.Status.TheVariants as status
use Rattle.schedule_rules.specs.Endings.{accepted}
use Rattle.schedule_rules.specs.Halts.{HaltsAt}
use Rattle.schedule_rules.specs.Schedule.{judge}
use Rattle.schedule_rules.specs.declared.halt.Halt.{Halt}
use Rattle.schedule_rules.proofs.Closing.{ends_well, ends_refused, ends_stopped}
use Rattle.schedule_replay.specs.Halting.{MayHalt}
use Rattle.schedule_replay.specs.Statuses.{may_end_replay}
use Rattle.schedule_replay.proofs.Statuses.{written_may_end}
use Rattle.schedule_replay.proofs.Waits.{ends_short}
use Rattle.schedule_replay.proofs.run.run_schedule.Goals as goal

pub returns-in-Ok-clause-statuses : goal.returns-in-Ok-clause-statuses
returns-in-Ok-clause-statuses g c =
    written_may_end status.Ok c.write_last.result c.deref.result.now (g.K.Sink.held c.take_all.new.sink) (g.K.Sink.held c.write_last.new.sink) (g.K.Sink.faults c.take_all.new.sink) (g.K.Sink.faults c.write_last.new.sink) refl c.write_last.ensures

pub returns-in-Ok-clause-read : goal.returns-in-Ok-clause-read
returns-in-Ok-clause-read g c ended bytes e = (c.in-Ok.ensures.halts bytes e).is_left

pub returns-in-Ok-clause-written : goal.returns-in-Ok-clause-written
returns-in-Ok-clause-written g c bytes e =
    let written = subst (λ (m : List ℕ). Written status.Ok m c.write_last.result (g.K.Sink.held c.take_all.new.sink) (g.K.Sink.held c.write_last.new.sink) (g.K.Sink.faults c.take_all.new.sink) (g.K.Sink.faults c.write_last.new.sink)) c.deref.ensures.value c.write_last.ensures in
    ends_well g.T.RunObserver.telling (judge bytes) (g.S.Source.left c.take_all.new.source) (HasRisen (g.S.Source.faults c.args.source.now) (g.S.Source.faults c.take_all.new.source)) (g.K.Sink.held c.args.sink.now) (g.K.Sink.held c.take_all.new.sink) (g.K.Sink.held c.write_last.new.sink) c.take_all.new.text.items c.write_last.result _ _ (c.in-Ok.ensures.halts bytes e) written

pub returns-in-Err-Refused-clause-statuses : goal.returns-in-Err-Refused-clause-statuses
returns-in-Err-Refused-clause-statuses g c =
    let may = subst (λ (s : Status). IsTrue (may_end_replay s)) (sym c.status.ensures) (subst MayHalt c.in-Err-Refused.field-0-is c.in-Err-Refused.ensures.may) in
    written_may_end c.status.result c.send_fault.result (c.take_all.new.text.items ++ fault_line c.status.result) (g.K.Sink.held c.take_all.new.sink) (g.K.Sink.held c.send_fault.new.sink) (g.K.Sink.faults c.take_all.new.sink) (g.K.Sink.faults c.send_fault.new.sink) may c.send_fault.ensures

pub returns-in-Err-Refused-clause-written : goal.returns-in-Err-Refused-clause-written
returns-in-Err-Refused-clause-written g c bytes e =
    let halts = subst (λ (s : Halt). HaltsAt g.T.RunObserver.telling (Err s) (judge bytes) (g.S.Source.left c.take_all.new.source) (g.K.Sink.held c.args.sink.now) (g.K.Sink.held c.take_all.new.sink) c.take_all.new.text.items) c.in-Err-Refused.field-0-is (c.in-Err-Refused.ensures.halts bytes e) in
    ends_refused g.T.RunObserver.telling (judge bytes) (g.S.Source.left c.take_all.new.source) (HasRisen (g.S.Source.faults c.args.source.now) (g.S.Source.faults c.take_all.new.source)) (g.K.Sink.held c.args.sink.now) (g.K.Sink.held c.take_all.new.sink) (g.K.Sink.held c.send_fault.new.sink) c.take_all.new.text.items c.in-Err-Refused.refusal c.status.result c.send_fault.result _ _ c.status.ensures halts.0 halts.1 (inl c.send_fault.ensures)

pub returns-in-Err-SourceFailed-clause-statuses : goal.returns-in-Err-SourceFailed-clause-statuses
returns-in-Err-SourceFailed-clause-statuses g c =
    written_may_end status.ReadFault c.send_fault-in-Err-SourceFailed.result (c.take_all.new.text.items ++ fault_line status.ReadFault) (g.K.Sink.held c.take_all.new.sink) (g.K.Sink.held c.send_fault-in-Err-SourceFailed.new.sink) (g.K.Sink.faults c.take_all.new.sink) (g.K.Sink.faults c.send_fault-in-Err-SourceFailed.new.sink) refl c.send_fault-in-Err-SourceFailed.ensures

pub returns-in-Err-SourceFailed-clause-written : goal.returns-in-Err-SourceFailed-clause-written
returns-in-Err-SourceFailed-clause-written g c bytes e =
    let halts = subst (λ (s : Halt). HaltsAt g.T.RunObserver.telling (Err s) (judge bytes) (g.S.Source.left c.take_all.new.source) (g.K.Sink.held c.args.sink.now) (g.K.Sink.held c.take_all.new.sink) c.take_all.new.text.items) c.in-Err-SourceFailed.field-0-is (c.in-Err-SourceFailed.ensures.halts bytes e) in
    let cause = c.in-Err-SourceFailed.ensures.source_failed (ap Err c.in-Err-SourceFailed.field-0-is) in
    ends_stopped g.T.RunObserver.telling (judge bytes) (g.S.Source.left c.take_all.new.source) (HasRisen (g.S.Source.faults c.args.source.now) (g.S.Source.faults c.take_all.new.source)) (g.K.Sink.held c.args.sink.now) (g.K.Sink.held c.take_all.new.sink) (g.K.Sink.held c.send_fault-in-Err-SourceFailed.new.sink) c.take_all.new.text.items halts.0 halts.1 c.send_fault-in-Err-SourceFailed.result _ _ cause halts.2 halts.3 (inl c.send_fault-in-Err-SourceFailed.ensures)

pub returns-in-Err-OutOfMemory-clause-statuses : goal.returns-in-Err-OutOfMemory-clause-statuses
returns-in-Err-OutOfMemory-clause-statuses g c =
    written_may_end status.OutOfMemory c.write_last-in-Err-OutOfMemory.result c.deref-in-Err-OutOfMemory.result.now (g.K.Sink.held c.take_all.new.sink) (g.K.Sink.held c.write_last-in-Err-OutOfMemory.new.sink) (g.K.Sink.faults c.take_all.new.sink) (g.K.Sink.faults c.write_last-in-Err-OutOfMemory.new.sink) refl c.write_last-in-Err-OutOfMemory.ensures

pub returns-in-Err-OutOfMemory-clause-written : goal.returns-in-Err-OutOfMemory-clause-written
returns-in-Err-OutOfMemory-clause-written g c bytes e =
    let written = subst (λ (m : List ℕ). Written status.OutOfMemory m c.write_last-in-Err-OutOfMemory.result (g.K.Sink.held c.take_all.new.sink) (g.K.Sink.held c.write_last-in-Err-OutOfMemory.new.sink) (g.K.Sink.faults c.take_all.new.sink) (g.K.Sink.faults c.write_last-in-Err-OutOfMemory.new.sink)) c.deref-in-Err-OutOfMemory.ensures.value c.write_last-in-Err-OutOfMemory.ensures in
    ends_short g.T.RunObserver.telling (judge bytes) (g.S.Source.left c.take_all.new.source) (HasRisen (g.S.Source.faults c.args.source.now) (g.S.Source.faults c.take_all.new.source)) (g.K.Sink.held c.args.sink.now) (g.K.Sink.held c.take_all.new.sink) (g.K.Sink.held c.write_last-in-Err-OutOfMemory.new.sink) c.take_all.new.text.items c.write_last-in-Err-OutOfMemory.result _ _ (c.in-Err-OutOfMemory.ensures.waits bytes e (ap Err c.in-Err-OutOfMemory.field-0-is)) written

pub returns-clause-written : goal.returns-clause-written
returns-clause-written g c bytes e =
    accepted (subst (λ (s : Halt). HaltsAt g.T.RunObserver.telling (Err s) (judge bytes) (g.S.Source.left c.take_all.new.source) (g.K.Sink.held c.args.sink.now) (g.K.Sink.held c.take_all.new.sink) c.take_all.new.text.items) c.in-Err-SinkFailed.field-0-is (c.in-Err-SinkFailed.ensures.halts bytes e))
