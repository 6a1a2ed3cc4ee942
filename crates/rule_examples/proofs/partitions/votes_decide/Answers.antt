use Rattle.rule_examples.proofs.Computed.{votes_decide}
use Rattle.rule_examples.proofs.partitions.votes_decide.Goals as goal

pub returns : goal.returns
returns c = votes_decide
