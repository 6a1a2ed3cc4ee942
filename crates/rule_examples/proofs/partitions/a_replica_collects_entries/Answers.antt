use Rattle.rule_examples.proofs.Computed.{a_replica_collects_entries}
use Rattle.rule_examples.proofs.partitions.a_replica_collects_entries.Goals as goal

pub returns : goal.returns
returns c = a_replica_collects_entries
