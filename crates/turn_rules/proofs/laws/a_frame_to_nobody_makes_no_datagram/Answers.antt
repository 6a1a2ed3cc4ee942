use Rattle.turn_rules.proofs.Strangers.{none_to_strangers}
use Rattle.turn_rules.proofs.laws.a_frame_to_nobody_makes_no_datagram.Goals as goal

pub returns : goal.returns
returns c = none_to_strangers
