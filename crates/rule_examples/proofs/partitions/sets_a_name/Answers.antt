use Rattle.rule_examples.proofs.Named.{sets_a_name}
use Rattle.rule_examples.proofs.partitions.sets_a_name.Goals as goal

pub returns : goal.returns
returns c = sets_a_name
