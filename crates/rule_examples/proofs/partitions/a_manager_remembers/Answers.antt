use Rattle.rule_examples.proofs.Computed.{a_manager_remembers}
use Rattle.rule_examples.proofs.partitions.a_manager_remembers.Goals as goal

pub returns : goal.returns
returns c = a_manager_remembers
