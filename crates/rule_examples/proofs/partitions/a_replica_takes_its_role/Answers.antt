use Rattle.rule_examples.proofs.Computed.{a_replica_takes_its_role}
use Rattle.rule_examples.proofs.partitions.a_replica_takes_its_role.Goals as goal

pub returns : goal.returns
returns c = a_replica_takes_its_role
