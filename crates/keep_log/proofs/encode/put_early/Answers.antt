use Rattle.std.proofs.Common.{rules}
use Rattle.wire_fields.proofs.Puts.{puts_more}
use Rattle.keep_log.proofs.encode.put_early.Goals as goal

pub returns-in-AccusedBy : goal.returns-in-AccusedBy
returns-in-AccusedBy c = rw c.in-AccusedBy.is (search (rules, puts_more))
