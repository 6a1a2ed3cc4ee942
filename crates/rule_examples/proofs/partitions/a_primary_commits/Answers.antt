use Rattle.rule_examples.proofs.Computed.{a_primary_commits}
use Rattle.rule_examples.proofs.partitions.a_primary_commits.Goals as goal

pub returns : goal.returns
returns c = a_primary_commits
