use Rattle.wire_fields.proofs.Puts.{puts_more}
use Rattle.wire_fields.proofs.write.field.put_claim.Goals as goal

pub returns-clause-wrote : goal.returns-clause-wrote
returns-clause-wrote c = puts_more (puts_more c.put_who-at.ensures.wrote c.put_u8-at.ensures.wrote) c.put_who.ensures.wrote
