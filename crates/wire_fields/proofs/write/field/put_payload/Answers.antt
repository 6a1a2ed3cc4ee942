use Rattle.wire_fields.specs.Texts.{payload_bytes}
use Rattle.wire_fields.proofs.Puts.{puts_more}
use Rattle.wire_fields.proofs.write.field.put_payload.Goals as goal

pub returns : goal.returns
unfolding payload_bytes
returns c = rw (← c.as_slice-bytes.ensures.bytes) (puts_more c.put_u16-at.ensures.wrote c.put_bytes.ensures)
