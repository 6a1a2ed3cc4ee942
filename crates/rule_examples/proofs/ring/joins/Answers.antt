use Rattle.rule_examples.proofs.RingComputed.{joins}
use Rattle.rule_examples.proofs.ring.joins.Goals as goal

pub returns : goal.returns
returns c = joins
