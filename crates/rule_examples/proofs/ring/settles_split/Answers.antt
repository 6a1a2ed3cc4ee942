use Rattle.rule_examples.proofs.RingComputed.{settles_split}
use Rattle.rule_examples.proofs.ring.settles_split.Goals as goal

pub returns : goal.returns
returns c = settles_split
