use Rattle.fabric_c.proofs.fabric_record_bytes.Goals as goal

pub returns : goal.returns
returns c = record { text = c.record_back-reply.result.text.items; code = c.record_back-reply.result.code; reply = c.record_back-reply.ensures; handed = c.hand_out.ensures }
