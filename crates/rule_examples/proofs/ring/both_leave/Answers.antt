use Rattle.rule_examples.proofs.RingComputed.{both_leave}
use Rattle.rule_examples.proofs.ring.both_leave.Goals as goal

pub returns : goal.returns
returns c = both_leave
