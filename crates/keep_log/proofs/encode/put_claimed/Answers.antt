use Rattle.std.proofs.Common.{rules}
use Rattle.wire_fields.proofs.Puts.{puts_more}
use Rattle.keep_log.proofs.encode.put_claimed.Goals as goal

pub returns : goal.returns
returns c = rw c.in-ClaimedBy.is (search (rules, puts_more))
