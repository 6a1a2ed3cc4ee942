use Rattle.std.proofs.Common.{rules}
use Rattle.wire_fields.proofs.Puts.{puts_more}
use Rattle.ring_wire.proofs.write.roles.put_role.Goals as goal

pub returns-in-Append : goal.returns-in-Append
returns-in-Append c = rw c.in-Append.is (search (rules, puts_more))

pub returns-in-Appended : goal.returns-in-Appended
returns-in-Appended c = rw c.in-Appended.is (search (rules, puts_more))

pub returns-in-Older : goal.returns-in-Older
returns-in-Older c = rw c.in-Older.is (search (rules, puts_more))
