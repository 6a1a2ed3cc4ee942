use Rattle.fabric_c.proofs.fabric_point.Goals as goal

pub returns : goal.returns
returns c = record { text = c.point_reply-reply.result.text.items; code = c.point_reply-reply.result.code; reply = c.point_reply-reply.ensures; handed = c.hand_out.ensures }
