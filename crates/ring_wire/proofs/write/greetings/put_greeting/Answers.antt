use Rattle.std.proofs.Common.{rules}
use Rattle.wire_fields.proofs.Puts.{puts_more}
use Rattle.ring_wire.proofs.write.greetings.put_greeting.Goals as goal

pub returns-in-HelloFor : goal.returns-in-HelloFor
returns-in-HelloFor c = rw c.in-HelloFor.is (search (rules, puts_more))

pub returns-in-OfferFor : goal.returns-in-OfferFor
returns-in-OfferFor c = rw c.in-OfferFor.is (search (rules, puts_more))
