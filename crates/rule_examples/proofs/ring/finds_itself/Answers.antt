use Rattle.rule_examples.proofs.RingComputed.{finds_itself}
use Rattle.rule_examples.proofs.ring.finds_itself.Goals as goal

pub returns : goal.returns
returns c = finds_itself
