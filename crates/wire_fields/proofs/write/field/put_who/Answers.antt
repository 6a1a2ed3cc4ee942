use Rattle.std.proofs.Common.{rules}
use Rattle.wire_fields.specs.Texts.{who_bytes}
use Rattle.wire_fields.proofs.Puts.{puts_more}
use Rattle.wire_fields.proofs.write.field.put_who.Goals as goal

pub returns-clause-wrote : goal.returns-clause-wrote
unfolding who_bytes
returns-clause-wrote c = search (rules, puts_more)
