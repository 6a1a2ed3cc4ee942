use Rattle.wire_fields.proofs.Puts.{puts_more, puts_front}
use Rattle.ring_wire.proofs.write.encode.Goals as goal

pub returns-clause-written : goal.returns-clause-written
returns-clause-written c =
    puts_front (puts_more (puts_more (puts_more c.put_start-at.ensures.wrote c.put_who-at.ensures.wrote) c.put_who-at-2.ensures.wrote) c.put_body.ensures)
