use Rattle.wire_fields.specs.Texts.{unit_bytes}
use Rattle.wire_fields.proofs.Puts.{puts_more}
use Rattle.wire_fields.proofs.write.field.put_unit.Goals as goal

pub returns-clause-wrote : goal.returns-clause-wrote
unfolding unit_bytes
returns-clause-wrote c = puts_more c.put_u16-at.ensures.wrote c.put_epoch.ensures.wrote
