use Rattle.rule_examples.proofs.Computed.{lists_units}
use Rattle.rule_examples.proofs.partitions.lists_units.Goals as goal

pub returns : goal.returns
returns c = lists_units
