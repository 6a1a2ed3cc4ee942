use Rattle.std.proofs.Common.{rules}
use Rattle.wire_fields.proofs.Puts.{puts_more}
use Rattle.keep_log.proofs.encode.put_replicated.Goals as goal

pub returns-in-Wrote : goal.returns-in-Wrote
returns-in-Wrote c = rw c.in-Wrote.is (search (rules, puts_more))

pub returns-in-Incoming : goal.returns-in-Incoming
returns-in-Incoming c = rw c.in-Incoming.is (search (rules, puts_more))

pub returns-in-AdoptedAt : goal.returns-in-AdoptedAt
returns-in-AdoptedAt c = rw c.in-AdoptedAt.is (search (rules, puts_more))
