use Rattle.rule_examples.proofs.Computed.{moves_the_primary}
use Rattle.rule_examples.proofs.partitions.moves_the_primary.Goals as goal

pub returns : goal.returns
returns c = moves_the_primary
