use Rattle.epoch_safety.proofs.Answers.{lives_cover_answers_lem}
use Rattle.epoch_safety.proofs.laws.lives_cover_answers.Goals as goal

pub returns : goal.returns
returns c = lives_cover_answers_lem
