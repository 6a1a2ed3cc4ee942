use Rattle.fabric_c.proofs.fabric_frame_bytes.Goals as goal

pub returns : goal.returns
returns c = record { text = c.frame_back-reply.result.text.items; code = c.frame_back-reply.result.code; reply = c.frame_back-reply.ensures; handed = c.hand_out.ensures }
