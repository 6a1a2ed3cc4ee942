use Rattle.rule_examples.proofs.RingComputed.{agrees_length}
use Rattle.rule_examples.proofs.ring.agrees_length.Goals as goal

pub returns : goal.returns
returns c = agrees_length
