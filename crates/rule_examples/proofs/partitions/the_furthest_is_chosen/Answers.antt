use Rattle.rule_examples.proofs.Computed.{the_furthest_is_chosen}
use Rattle.rule_examples.proofs.partitions.the_furthest_is_chosen.Goals as goal

pub returns : goal.returns
returns c = the_furthest_is_chosen
