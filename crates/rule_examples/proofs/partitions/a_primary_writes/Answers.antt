use Rattle.rule_examples.proofs.Computed.{a_primary_writes}
use Rattle.rule_examples.proofs.partitions.a_primary_writes.Goals as goal

pub returns : goal.returns
returns c = a_primary_writes
