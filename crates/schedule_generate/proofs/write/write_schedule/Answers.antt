use Rattle.std.proofs.Common.{List, ℕ, Err, refl, ap, sym, subst, ⊎_elim, inl, inr}
use Rattle.std.specs.Prelude.{Option}
use Rattle.edge_io.specs.Edge.{GrewByFront}
use Rattle.fabric_status.specs.Writes.{Wrote as Written}
use Rattle.fabric_status.specs.declared.status.Status.TheVariants as status
use Rattle.schedule_generate.specs.Goes.{Made}
use Rattle.schedule_generate.specs.Texts.{all_written, generated}
use Rattle.schedule_generate.specs.declared.course_halt.CourseHalt.{CourseHalt}
use Rattle.schedule_generate.proofs.Closing.{closes_refused, closes_short, closes_well, judged_refused, judged_well}
use Rattle.schedule_generate.proofs.write.write_schedule.Goals as goal

pub returns-in-Ok-clause-wrote : goal.returns-in-Ok-clause-wrote
returns-in-Ok-clause-wrote g c =
    let written = subst (λ (t : List ℕ). Written status.Ok t c.write_last.result (g.K.Sink.held c.make.new.sink) (g.K.Sink.held c.write_last.new.sink) (g.K.Sink.faults c.make.new.sink) (g.K.Sink.faults c.write_last.new.sink)) c.deref.ensures.value c.write_last.ensures in
    closes_well c.args.nodes (g.L.CourseObserver.writing c.args.nodes) tt (generated c.args.seed c.args.nodes c.args.count) c.write_last.result (g.K.Sink.held c.args.sink.now) (g.K.Sink.held c.make.new.sink) (g.K.Sink.held c.write_last.new.sink) c.make.new.text.items (g.K.Sink.faults c.args.sink.now) (g.K.Sink.faults c.make.new.sink) (g.K.Sink.faults c.write_last.new.sink) c.make.ensures.later c.in-Ok.ensures.made written

pub returns-in-Ok-clause-judged : goal.returns-in-Ok-clause-judged
returns-in-Ok-clause-judged g c settled =
    judged_well c.args.nodes c.args.seed c.args.count (g.L.CourseObserver.writing c.args.nodes) tt c.make.new.text.items (g.K.Sink.held c.args.sink.now) (g.K.Sink.held c.make.new.sink) c.requires.some c.requires.few c.in-Ok.ensures.made

pub returns-in-Err-TooLarge-clause-wrote : goal.returns-in-Err-TooLarge-clause-wrote
returns-in-Err-TooLarge-clause-wrote g c =
    let made = subst (λ (s : CourseHalt). Made c.args.nodes (g.L.CourseObserver.writing c.args.nodes) (Err s) c.make.new.text.items (generated c.args.seed c.args.nodes c.args.count) (g.K.Sink.held c.args.sink.now) (g.K.Sink.held c.make.new.sink)) c.in-Err-TooLarge.field-0-is c.in-Err-TooLarge.ensures.made in
    ⊎_elim
    (λ written. closes_refused c.args.nodes (g.L.CourseObserver.writing c.args.nodes) (generated c.args.seed c.args.nodes c.args.count) c.in-Err-TooLarge.line c.write_fault.result (g.K.Sink.held c.args.sink.now) (g.K.Sink.held c.make.new.sink) (g.K.Sink.held c.write_fault.new.sink) c.make.new.text.items (g.K.Sink.faults c.args.sink.now) (g.K.Sink.faults c.make.new.sink) (g.K.Sink.faults c.write_fault.new.sink) c.make.ensures.later made written)
    (λ short. inr (inl (short.0, subst (λ (o : Option (List ℕ)). GrewByFront (g.K.Sink.held c.args.sink.now) o (all_written (g.L.CourseObserver.writing c.args.nodes) (generated c.args.seed c.args.nodes c.args.count))) (sym short.1) (closes_short c.args.nodes (g.L.CourseObserver.writing c.args.nodes) (generated c.args.seed c.args.nodes c.args.count) c.in-Err-TooLarge.line (g.K.Sink.held c.args.sink.now) (g.K.Sink.held c.make.new.sink) c.make.new.text.items made))))
    c.write_fault.ensures

pub returns-in-Err-TooLarge-clause-judged : goal.returns-in-Err-TooLarge-clause-judged
returns-in-Err-TooLarge-clause-judged g c settled =
    let made = subst (λ (s : CourseHalt). Made c.args.nodes (g.L.CourseObserver.writing c.args.nodes) (Err s) c.make.new.text.items (generated c.args.seed c.args.nodes c.args.count) (g.K.Sink.held c.args.sink.now) (g.K.Sink.held c.make.new.sink)) c.in-Err-TooLarge.field-0-is c.in-Err-TooLarge.ensures.made in
    judged_refused c.args.nodes c.args.seed c.args.count c.in-Err-TooLarge.line (g.L.CourseObserver.writing c.args.nodes) c.make.new.text.items (g.K.Sink.held c.args.sink.now) (g.K.Sink.held c.make.new.sink) c.requires.some c.requires.few made

pub returns-in-Err-OutOfMemory-clause-wrote : goal.returns-in-Err-OutOfMemory-clause-wrote
returns-in-Err-OutOfMemory-clause-wrote g c =
    let made = subst (λ (s : CourseHalt). Made c.args.nodes (g.L.CourseObserver.writing c.args.nodes) (Err s) c.make.new.text.items (generated c.args.seed c.args.nodes c.args.count) (g.K.Sink.held c.args.sink.now) (g.K.Sink.held c.make.new.sink)) c.in-Err-OutOfMemory.field-0-is c.in-Err-OutOfMemory.ensures.made in
    inr (inl (refl, made))

pub returns-clause-wrote : goal.returns-clause-wrote
returns-clause-wrote g c =
    let made = subst (λ (s : CourseHalt). Made c.args.nodes (g.L.CourseObserver.writing c.args.nodes) (Err s) c.make.new.text.items (generated c.args.seed c.args.nodes c.args.count) (g.K.Sink.held c.args.sink.now) (g.K.Sink.held c.make.new.sink)) c.in-Err-SinkFailed.field-0-is c.in-Err-SinkFailed.ensures.made in
    inr (inr (refl, made, c.in-Err-SinkFailed.ensures.failed (ap Err c.in-Err-SinkFailed.field-0-is)))
