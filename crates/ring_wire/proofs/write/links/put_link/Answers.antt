use Rattle.std.proofs.Common.{rules}
use Rattle.wire_fields.proofs.Puts.{puts_more}
use Rattle.ring_wire.proofs.write.links.put_link.Goals as goal

pub returns-in-Renew : goal.returns-in-Renew
returns-in-Renew c = rw c.in-Renew.is (search (rules, puts_more))

pub returns-in-RenewAck : goal.returns-in-RenewAck
returns-in-RenewAck c = rw c.in-RenewAck.is (search (rules, puts_more))

pub returns-in-Transfer : goal.returns-in-Transfer
returns-in-Transfer c = rw c.in-Transfer.is (search (rules, puts_more))

pub returns-in-Gone : goal.returns-in-Gone
returns-in-Gone c = rw c.in-Gone.is (search (rules, puts_more))
