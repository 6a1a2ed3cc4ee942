use Rattle.std.proofs.Common.{rules}
use Rattle.wire_fields.proofs.Puts.{puts_more}
use Rattle.keep_log.proofs.encode.put_registered.Goals as goal

pub returns-in-PreparedBy : goal.returns-in-PreparedBy
returns-in-PreparedBy c = rw c.in-PreparedBy.is (search (rules, puts_more))
