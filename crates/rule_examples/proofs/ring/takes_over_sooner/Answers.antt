use Rattle.rule_examples.proofs.RingComputed.{takes_over_sooner}
use Rattle.rule_examples.proofs.ring.takes_over_sooner.Goals as goal

pub returns : goal.returns
returns c = takes_over_sooner
