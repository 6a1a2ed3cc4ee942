use Rattle.std.proofs.Common.{arith}
use Rattle.wire_fields.specs.Texts.{number_bytes}
use Rattle.wire_fields.proofs.Puts.{puts_mid, number_length}
use Rattle.wire_fields.proofs.write.number.put_u64.Goals as goal

pub returns-clause-wrote : goal.returns-clause-wrote
unfolding number_bytes
returns-clause-wrote c =
    puts_mid c.args.at _ 8 c.args.into.now c.write_u64.new.buf (number_bytes 8 c.args.n) _ (omega arith) c.write_u64.ensures (omega (arith, c.write_u64.auto.buf)) (number_length 8 c.args.n) (omega arith)
