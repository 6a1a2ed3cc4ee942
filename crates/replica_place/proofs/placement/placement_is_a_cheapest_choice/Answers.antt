use Rattle.replica_place.proofs.CheapestChoice.{is_choice, in_rising_order, none_costs_less}
use Rattle.replica_place.proofs.placement.placement_is_a_cheapest_choice.Goals as goal

pub returns-clause-choice : goal.returns-clause-choice
returns-clause-choice c = is_choice

pub returns-clause-in_order : goal.returns-clause-in_order
returns-clause-in_order c = in_rising_order

pub returns-clause-cheapest : goal.returns-clause-cheapest
returns-clause-cheapest c = none_costs_less
