use Rattle.fabric_c.proofs.fabric_record_line.Goals as goal

pub returns : goal.returns
returns c = record { text = c.record_reply-reply.result.text.items; code = c.record_reply-reply.result.code; reply = c.record_reply-reply.ensures; handed = c.hand_out.ensures }
