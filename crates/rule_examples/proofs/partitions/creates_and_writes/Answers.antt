use Rattle.rule_examples.proofs.Computed.{creates_and_writes}
use Rattle.rule_examples.proofs.partitions.creates_and_writes.Goals as goal

pub returns : goal.returns
returns c = creates_and_writes
