use Rattle.wire_fields.specs.Texts.{interval_bytes}
use Rattle.wire_fields.proofs.Puts.{puts_more}
use Rattle.wire_fields.proofs.write.field.put_interval.Goals as goal

pub returns-clause-wrote : goal.returns-clause-wrote
unfolding interval_bytes
returns-clause-wrote c = puts_more c.put_u64-at.ensures.wrote c.put_u64.ensures.wrote
