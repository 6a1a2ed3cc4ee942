use Rattle.rule_examples.proofs.RingComputed.{stays_split}
use Rattle.rule_examples.proofs.ring.stays_split.Goals as goal

pub returns : goal.returns
returns c = stays_split
