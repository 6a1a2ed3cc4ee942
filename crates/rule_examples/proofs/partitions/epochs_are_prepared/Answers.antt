use Rattle.rule_examples.proofs.Computed.{epochs_are_prepared}
use Rattle.rule_examples.proofs.partitions.epochs_are_prepared.Goals as goal

pub returns : goal.returns
returns c = epochs_are_prepared
