use Rattle.rule_examples.proofs.Computed.{a_replica_appends}
use Rattle.rule_examples.proofs.partitions.a_replica_appends.Goals as goal

pub returns : goal.returns
returns c = a_replica_appends
