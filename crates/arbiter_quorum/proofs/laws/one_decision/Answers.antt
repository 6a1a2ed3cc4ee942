use Rattle.arbiter_quorum.proofs.Decisions.{one_decided}
use Rattle.arbiter_quorum.proofs.laws.one_decision.Goals as goal

pub returns : goal.returns
returns c = one_decided
