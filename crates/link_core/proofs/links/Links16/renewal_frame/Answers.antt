use Rattle.link_core.proofs.Silent.{silent_row}
use Rattle.link_core.proofs.links.Links16.renewal_frame.Goals as goal

pub returns-in-Renew : goal.returns-in-Renew
returns-in-Renew c = rw c.in-Renew.is (rw c.new.ensures at c.hear_renew.ensures)

pub returns-in-RenewAck : goal.returns-in-RenewAck
returns-in-RenewAck c = rw c.in-RenewAck.is (silent_row c.hear_ack.new.self _ c.args.out.now c.no_notes.result (rw c.new-in-RenewAck.ensures at c.hear_ack.ensures) c.no_notes.ensures)
