use Rattle.wire_fields.specs.Texts.{list_bytes}
use Rattle.wire_fields.proofs.Puts.{puts_more}
use Rattle.wire_fields.proofs.write.field.put_members.Goals as goal

pub returns : goal.returns
unfolding list_bytes
returns c = puts_more c.put_u8-at.ensures.wrote c.put_nodes.ensures
