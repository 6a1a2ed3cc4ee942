use Rattle.turn_rules.proofs.Example.{in_order}
use Rattle.turn_rules.proofs.laws.a_turn_in_order.Goals as goal

pub returns : goal.returns
returns c = in_order
