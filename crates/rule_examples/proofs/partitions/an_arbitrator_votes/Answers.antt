use Rattle.rule_examples.proofs.Computed.{an_arbitrator_votes}
use Rattle.rule_examples.proofs.partitions.an_arbitrator_votes.Goals as goal

pub returns : goal.returns
returns c = an_arbitrator_votes
