use Rattle.wire_fields.specs.Texts.{done_bytes}
use Rattle.wire_fields.proofs.Puts.{puts_more}
use Rattle.wire_fields.proofs.write.field.put_done.Goals as goal

pub returns-in-Some : goal.returns-in-Some
unfolding done_bytes
returns-in-Some c = rw c.in-Some.is (puts_more c.put_flag-at.ensures.wrote c.put_config.ensures)
