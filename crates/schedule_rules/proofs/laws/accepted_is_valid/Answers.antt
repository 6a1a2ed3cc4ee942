use Rattle.schedule_rules.proofs.Accepted.{accepted_valid}
use Rattle.schedule_rules.proofs.laws.accepted_is_valid.Goals as goal

pub returns : goal.returns
returns c = accepted_valid
