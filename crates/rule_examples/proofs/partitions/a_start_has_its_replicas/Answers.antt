use Rattle.rule_examples.proofs.Computed.{a_start_has_its_replicas}
use Rattle.rule_examples.proofs.partitions.a_start_has_its_replicas.Goals as goal

pub returns : goal.returns
returns c = a_start_has_its_replicas
