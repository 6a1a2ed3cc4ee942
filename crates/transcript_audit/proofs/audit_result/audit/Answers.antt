use Rattle.std.proofs.Common.{List, ℕ, subst}
use Rattle.edge_io.specs.Edge.{HasRisen}
use Rattle.fabric_status.specs.Writes.{Wrote}
use Rattle.transcript_audit.proofs.Answering.{all_read, may_end, no_read_fault, sink_failed, wrote_answer}
use Rattle.transcript_audit.proofs.audit_result.audit.Goals as goal

pub returns-in-Ok-answer_to-clause-statuses : goal.returns-in-Ok-answer_to-clause-statuses
returns-in-Ok-answer_to-clause-statuses g c = may_end c.in-Ok.transcript c.in-Ok-answer_to.answer.status c.write_last-in-Ok-answer_to.result _ _ _ _ _ c.in-Ok-answer_to.ensures.status c.write_last-in-Ok-answer_to.ensures c.in-Ok.ensures.refusal

pub returns-in-Ok-answer_to-clause-read_fault : goal.returns-in-Ok-answer_to-clause-read_fault
returns-in-Ok-answer_to-clause-read_fault g c e = absurd (no_read_fault c.in-Ok.transcript c.in-Ok-answer_to.answer.status c.write_last-in-Ok-answer_to.result _ _ _ _ _ c.in-Ok-answer_to.ensures.status c.write_last-in-Ok-answer_to.ensures e)

pub returns-in-Ok-answer_to-clause-write_fault : goal.returns-in-Ok-answer_to-clause-write_fault
returns-in-Ok-answer_to-clause-write_fault g c = sink_failed c.in-Ok.transcript c.in-Ok-answer_to.answer.status c.write_last-in-Ok-answer_to.result _ _ _ _ _ c.in-Ok-answer_to.ensures.status c.write_last-in-Ok-answer_to.ensures

pub returns-in-Ok-answer_to-clause-read : goal.returns-in-Ok-answer_to-clause-read
returns-in-Ok-answer_to-clause-read g c ended bytes e =
    all_read c.in-Ok.transcript c.in-Ok-answer_to.answer.status c.write_last-in-Ok-answer_to.result _ _ _ _ _ c.in-Ok-answer_to.ensures.status c.write_last-in-Ok-answer_to.ensures (g.S.Source.left c.read_transcript.new.source) (c.in-Ok.ensures.read bytes e).1 ended

pub returns-in-Ok-answer_to-clause-written : goal.returns-in-Ok-answer_to-clause-written
returns-in-Ok-answer_to-clause-written g c bytes e =
    let a = c.in-Ok-answer_to.answer in
    wrote_answer bytes (HasRisen (g.S.Source.faults c.args.source.now) (g.S.Source.faults c.read_transcript.new.source)) a.status a.text.items (g.K.Sink.held c.args.sink.now) (g.K.Sink.held c.write_last-in-Ok-answer_to.new.sink)
    (c.in-Ok-answer_to.ensures.answer bytes (c.in-Ok.ensures.read bytes e).0) c.write_last-in-Ok-answer_to.result _ _
    (subst (λ (t : List ℕ). Wrote a.status t c.write_last-in-Ok-answer_to.result (g.K.Sink.held c.args.sink.now) (g.K.Sink.held c.write_last-in-Ok-answer_to.new.sink) (g.K.Sink.faults c.args.sink.now) (g.K.Sink.faults c.write_last-in-Ok-answer_to.new.sink)) c.deref.ensures.value c.write_last-in-Ok-answer_to.ensures)
