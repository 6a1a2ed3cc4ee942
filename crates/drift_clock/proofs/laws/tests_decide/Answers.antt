use Rattle.drift_clock.proofs.Decided.{tests_decided}
use Rattle.drift_clock.proofs.laws.tests_decide.Goals as goal

pub returns : goal.returns
returns c = tests_decided
