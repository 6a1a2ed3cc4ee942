use Rattle.rule_examples.proofs.Computed.{a_replica_promises}
use Rattle.rule_examples.proofs.partitions.a_replica_promises.Goals as goal

pub returns : goal.returns
returns c = a_replica_promises
