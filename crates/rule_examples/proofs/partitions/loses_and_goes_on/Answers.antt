use Rattle.rule_examples.proofs.Computed.{loses_and_goes_on}
use Rattle.rule_examples.proofs.partitions.loses_and_goes_on.Goals as goal

pub returns : goal.returns
returns c = loses_and_goes_on
