use Rattle.rule_examples.proofs.Computed.{commands_go_on}
use Rattle.rule_examples.proofs.partitions.commands_go_on.Goals as goal

pub returns : goal.returns
returns c = commands_go_on
