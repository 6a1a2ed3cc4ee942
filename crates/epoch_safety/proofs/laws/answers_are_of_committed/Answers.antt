use Rattle.epoch_safety.proofs.Resting.{answers_of_committed_lem}
use Rattle.epoch_safety.proofs.laws.answers_are_of_committed.Goals as goal

pub returns : goal.returns
returns c = answers_of_committed_lem
