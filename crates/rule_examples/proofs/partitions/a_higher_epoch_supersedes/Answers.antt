use Rattle.rule_examples.proofs.Computed.{a_higher_epoch_supersedes}
use Rattle.rule_examples.proofs.partitions.a_higher_epoch_supersedes.Goals as goal

pub returns : goal.returns
returns c = a_higher_epoch_supersedes
