use Rattle.std.proofs.Common.{arith}
use Rattle.wire_fields.specs.Texts.{number_bytes}
use Rattle.wire_fields.proofs.Puts.{puts_mid, number_length}
use Rattle.wire_fields.proofs.write.number.put_u32.Goals as goal

pub returns-clause-wrote : goal.returns-clause-wrote
unfolding number_bytes
returns-clause-wrote c =
    puts_mid c.args.at _ 4 c.args.into.now c.write_u32.new.buf (number_bytes 4 c.args.n) _ (omega arith) c.write_u32.ensures (omega (arith, c.write_u32.auto.buf)) (number_length 4 c.args.n) (omega arith)
