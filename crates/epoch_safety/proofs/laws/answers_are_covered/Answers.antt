use Rattle.epoch_safety.proofs.Answers.{answers_covered_lem}
use Rattle.epoch_safety.proofs.laws.answers_are_covered.Goals as goal

pub returns : goal.returns
returns c = answers_covered_lem
