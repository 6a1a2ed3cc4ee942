use Rattle.turn_rules.proofs.Served.{rests_are_idle}
use Rattle.turn_rules.proofs.laws.a_resting_turn_does_nothing.Goals as goal

pub returns : goal.returns
returns c = rests_are_idle
