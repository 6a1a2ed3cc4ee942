use Rattle.wire_fields.specs.Texts.{ranges_bytes, list_bytes}
use Rattle.wire_fields.proofs.Puts.{puts_more}
use Rattle.wire_fields.proofs.write.field.put_ranges.Goals as goal

pub returns : goal.returns
unfolding ranges_bytes list_bytes
returns c = rw (← c.intervals-intervals.ensures.value) (puts_more c.put_u8-at.ensures.wrote c.put_intervals.ensures)
