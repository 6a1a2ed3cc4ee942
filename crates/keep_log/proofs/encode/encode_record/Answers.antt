use Rattle.wire_fields.specs.Texts.{one_byte}
use Rattle.wire_fields.proofs.Puts.{puts_more, puts_front}
use Rattle.keep_log.proofs.encode.encode_record.Goals as goal

pub returns-clause-written : goal.returns-clause-written
unfolding one_byte
returns-clause-written c = rw (← c.kind_of.ensures) (puts_front (puts_more c.put_u8-at.ensures.wrote c.put_fields.ensures))
