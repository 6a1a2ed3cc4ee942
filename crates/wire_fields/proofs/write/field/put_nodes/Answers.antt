use Rattle.std.proofs.Common.{arith}
use Rattle.wire_fields.specs.Texts.{number_bytes}
use Rattle.wire_fields.proofs.Puts.{puts_next}
use Rattle.wire_fields.proofs.write.field.put_nodes.Goals as goal

pub loop-node-preserved : goal.loop-node-preserved
loop-node-preserved c = (
  omega (arith, c.loop-node.invariant.0),
  puts_next (number_bytes 2) c.args.nodes.now _ (omega arith) c.loop-node.invariant.1 c.put_u16-end.ensures.wrote,
)
