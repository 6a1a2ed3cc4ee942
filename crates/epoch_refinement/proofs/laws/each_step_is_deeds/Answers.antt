use Rattle.epoch_refinement.proofs.Stepping.{steps_lem}
use Rattle.epoch_refinement.proofs.laws.each_step_is_deeds.Goals as goal

pub returns : goal.returns
returns c = steps_lem
