use Rattle.rule_examples.proofs.RingComputed.{takes_once}
use Rattle.rule_examples.proofs.ring.takes_once.Goals as goal

pub returns : goal.returns
returns c = takes_once
