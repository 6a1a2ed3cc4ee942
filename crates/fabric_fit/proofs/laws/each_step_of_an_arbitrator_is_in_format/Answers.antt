use Rattle.fabric_fit.proofs.Steps.{arbiters_begin, arbiters_stay}
use Rattle.fabric_fit.proofs.laws.each_step_of_an_arbitrator_is_in_format.Goals as goal

pub returns-clause-begins : goal.returns-clause-begins
returns-clause-begins c = arbiters_begin

pub returns-clause-stays : goal.returns-clause-stays
returns-clause-stays c = arbiters_stay
