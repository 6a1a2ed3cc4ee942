use Rattle.rule_examples.proofs.RingComputed.{takes_over}
use Rattle.rule_examples.proofs.ring.takes_over.Goals as goal

pub returns : goal.returns
returns c = takes_over
