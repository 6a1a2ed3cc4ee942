use Rattle.epoch_safety.proofs.Resting.{lives_answer_lem}
use Rattle.epoch_safety.proofs.laws.lives_answer_of_committed.Goals as goal

pub returns : goal.returns
returns c = lives_answer_lem
