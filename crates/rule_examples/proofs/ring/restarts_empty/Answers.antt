use Rattle.rule_examples.proofs.RingComputed.{restarts_empty}
use Rattle.rule_examples.proofs.ring.restarts_empty.Goals as goal

pub returns : goal.returns
returns c = restarts_empty
