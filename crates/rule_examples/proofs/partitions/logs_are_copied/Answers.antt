use Rattle.rule_examples.proofs.Computed.{logs_are_copied}
use Rattle.rule_examples.proofs.partitions.logs_are_copied.Goals as goal

pub returns : goal.returns
returns c = logs_are_copied
