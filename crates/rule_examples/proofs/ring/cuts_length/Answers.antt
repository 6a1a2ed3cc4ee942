use Rattle.rule_examples.proofs.RingComputed.{cuts_length}
use Rattle.rule_examples.proofs.ring.cuts_length.Goals as goal

pub returns : goal.returns
returns c = cuts_length
