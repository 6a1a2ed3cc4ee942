use Rattle.rule_examples.proofs.Computed.{a_replica_takes_a_log}
use Rattle.rule_examples.proofs.partitions.a_replica_takes_a_log.Goals as goal

pub returns : goal.returns
returns c = a_replica_takes_a_log
