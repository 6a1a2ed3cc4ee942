use Rattle.turn_rules.proofs.Example.{served_in_order}
use Rattle.turn_rules.proofs.laws.served_turns_in_order.Goals as goal

pub returns : goal.returns
returns c = served_in_order
