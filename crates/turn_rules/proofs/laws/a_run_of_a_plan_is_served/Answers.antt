use Rattle.turn_rules.proofs.Served.{plans_are_served}
use Rattle.turn_rules.proofs.laws.a_run_of_a_plan_is_served.Goals as goal

pub returns : goal.returns
returns c = plans_are_served
