use Rattle.wire_fields.specs.Texts.{one_byte}
use Rattle.wire_fields.proofs.Puts.{puts_more}
use Rattle.ring_wire.proofs.write.put_start.Goals as goal

pub returns-clause-wrote : goal.returns-clause-wrote
unfolding one_byte
returns-clause-wrote c =
    rw (← c.version_of.ensures, ← c.kind_of.ensures) (puts_more (puts_more c.put_u8-at.ensures.wrote c.put_u8-at-2.ensures.wrote) c.put_u8.ensures.wrote)
