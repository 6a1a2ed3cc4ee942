use Rattle.arbiter_core.proofs.Votes.{one_decision}
use Rattle.arbiter_core.proofs.register_laws.one_decision_of_an_epoch.Goals as goal

pub returns : goal.returns
returns c = one_decision
