use Rattle.epoch_refinement.proofs.Managing.{manager_answers_lem}
use Rattle.epoch_refinement.proofs.laws.manager_answers_are_deeds.Goals as goal

pub returns : goal.returns
returns c = manager_answers_lem
