use Rattle.fabric_c.proofs.fabric_frame_line.Goals as goal

pub returns : goal.returns
returns c = record { text = c.frame_reply-reply.result.text.items; code = c.frame_reply-reply.result.code; reply = c.frame_reply-reply.ensures; handed = c.hand_out.ensures }
