use Rattle.std.proofs.Common.{arith}
use Rattle.wire_fields.specs.Texts.{interval_bytes}
use Rattle.wire_fields.proofs.Puts.{puts_next}
use Rattle.wire_fields.proofs.write.field.put_intervals.Goals as goal

pub loop-interval-preserved : goal.loop-interval-preserved
loop-interval-preserved c = (
  omega (arith, c.loop-interval.invariant.0),
  puts_next interval_bytes c.args.intervals.now _ (omega arith) c.loop-interval.invariant.1 c.put_interval-end.ensures.wrote,
)
