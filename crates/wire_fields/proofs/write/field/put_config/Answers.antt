use Rattle.wire_fields.specs.Texts.{config_bytes}
use Rattle.wire_fields.proofs.Puts.{puts_more}
use Rattle.wire_fields.proofs.write.field.put_config.Goals as goal

pub returns : goal.returns
unfolding config_bytes
returns c =
    rw (← c.as_slice.ensures.nodes) (puts_more (puts_more c.put_unit-at.ensures.wrote c.put_u16-at.ensures.wrote) c.put_members.ensures)
