use Rattle.turn_rules.proofs.Ended.{stays_ended}
use Rattle.turn_rules.proofs.laws.nothing_comes_after_an_end.Goals as goal

pub returns : goal.returns
returns c = stays_ended
