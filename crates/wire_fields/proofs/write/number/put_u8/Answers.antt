use Rattle.std.proofs.Common.{arith}
use Rattle.wire_fields.proofs.Puts.{puts_byte}
use Rattle.wire_fields.proofs.write.number.put_u8.Goals as goal

pub returns-clause-wrote : goal.returns-clause-wrote
returns-clause-wrote c = puts_byte c.args.at c.args.n c.args.into.now (omega arith)
