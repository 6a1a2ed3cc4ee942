use Rattle.wire_fields.specs.Texts.{epoch_bytes}
use Rattle.wire_fields.proofs.Puts.{puts_more}
use Rattle.wire_fields.proofs.write.field.put_epoch.Goals as goal

pub returns-clause-wrote : goal.returns-clause-wrote
unfolding epoch_bytes
returns-clause-wrote c = puts_more c.put_u32-at.ensures.wrote c.put_u32.ensures.wrote
