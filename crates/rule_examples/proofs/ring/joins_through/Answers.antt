use Rattle.rule_examples.proofs.RingComputed.{joins_through}
use Rattle.rule_examples.proofs.ring.joins_through.Goals as goal

pub returns : goal.returns
returns c = joins_through
