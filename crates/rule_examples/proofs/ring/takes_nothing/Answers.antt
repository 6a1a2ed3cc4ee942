use Rattle.rule_examples.proofs.RingComputed.{takes_nothing}
use Rattle.rule_examples.proofs.ring.takes_nothing.Goals as goal

pub returns : goal.returns
returns c = takes_nothing
