use Rattle.rule_examples.proofs.Computed.{nodes_are_up}
use Rattle.rule_examples.proofs.partitions.nodes_are_up.Goals as goal

pub returns : goal.returns
returns c = nodes_are_up
