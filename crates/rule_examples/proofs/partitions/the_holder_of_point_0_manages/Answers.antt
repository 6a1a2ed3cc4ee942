use Rattle.rule_examples.proofs.Computed.{the_holder_of_point_0_manages}
use Rattle.rule_examples.proofs.partitions.the_holder_of_point_0_manages.Goals as goal

pub returns : goal.returns
returns c = the_holder_of_point_0_manages
