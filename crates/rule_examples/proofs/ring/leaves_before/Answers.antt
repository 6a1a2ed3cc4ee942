use Rattle.rule_examples.proofs.RingComputed.{leaves_before}
use Rattle.rule_examples.proofs.ring.leaves_before.Goals as goal

pub returns : goal.returns
returns c = leaves_before
