use Rattle.fabric_fit.proofs.Steps.{nodes_begin, nodes_stay}
use Rattle.fabric_fit.proofs.laws.each_step_of_a_node_is_in_format.Goals as goal

pub returns-clause-begins : goal.returns-clause-begins
returns-clause-begins c = nodes_begin

pub returns-clause-stays : goal.returns-clause-stays
returns-clause-stays c = nodes_stay
