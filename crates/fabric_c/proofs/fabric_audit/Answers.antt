use Rattle.fabric_c.proofs.fabric_audit.Goals as goal

pub returns : goal.returns
returns c = record { text = c.audit_reply-reply.result.text.items; code = c.audit_reply-reply.result.code; reply = c.audit_reply-reply.ensures; handed = c.hand_out.ensures }
