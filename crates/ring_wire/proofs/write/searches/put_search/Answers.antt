use Rattle.std.proofs.Common.{rules}
use Rattle.wire_fields.proofs.Puts.{puts_more}
use Rattle.ring_wire.proofs.write.searches.put_search.Goals as goal

pub returns-in-Seek : goal.returns-in-Seek
returns-in-Seek c = rw c.in-Seek.is (search (rules, puts_more))

pub returns-in-Found : goal.returns-in-Found
returns-in-Found c = rw c.in-Found.is (search (rules, puts_more))
