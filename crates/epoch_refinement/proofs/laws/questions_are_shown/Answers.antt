use Rattle.epoch_refinement.proofs.Managing.{questions_lem}
use Rattle.epoch_refinement.proofs.laws.questions_are_shown.Goals as goal

pub returns : goal.returns
returns c = questions_lem
