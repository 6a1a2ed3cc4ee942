use Rattle.rule_examples.proofs.Computed.{refuses_more}
use Rattle.rule_examples.proofs.partitions.refuses_more.Goals as goal

pub returns : goal.returns
returns c = refuses_more
