use Rattle.rule_examples.proofs.Computed.{epochs_follow}
use Rattle.rule_examples.proofs.partitions.epochs_follow.Goals as goal

pub returns : goal.returns
returns c = epochs_follow
