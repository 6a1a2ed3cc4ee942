use Rattle.rule_examples.proofs.Computed.{an_arbitrator_keeps_what_is_done}
use Rattle.rule_examples.proofs.partitions.an_arbitrator_keeps_what_is_done.Goals as goal

pub returns : goal.returns
returns c = an_arbitrator_keeps_what_is_done
