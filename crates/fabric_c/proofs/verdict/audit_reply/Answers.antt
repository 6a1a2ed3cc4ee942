use Rattle.std.proofs.Common.{ℕ, List, Some, inl, inr, ap, subst}
use Rattle.edge_io.specs.Edge.{HasRisen}
use Rattle.transcript_audit.specs.Audits.{Writes}
use Rattle.fabric_c.proofs.Auditing.{answered, never_risen}
use Rattle.fabric_c.proofs.verdict.audit_reply.Goals as goal

pub returns-in-OutOfMemory : goal.returns-in-OutOfMemory
returns-in-OutOfMemory c = inr (c.bare.ensures.text, c.bare.ensures.code)

pub returns-in_default : goal.returns-in_default
returns-in_default c =
    let bytes = c.args.transcript.now in
    let text = c.audit.new.sink.text.items in
    let written = c.audit.ensures.written bytes (ap Some c.new-source.ensures) in
    let writes = subst (λ (t : List ℕ). Writes c.audit.result bytes (HasRisen 0 0) (Some t) (Some text)) c.new-sink.ensures written in
    let is = answered c.audit.result bytes text c.in_default.not-OutOfMemory (λ e. never_risen (c.audit.ensures.read_fault e)) (λ e. never_risen (c.audit.ensures.write_fault e)) writes in
    inl (c.audit.result, is, c.code.ensures)
