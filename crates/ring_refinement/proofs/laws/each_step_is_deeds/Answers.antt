use Rattle.ring_refinement.proofs.Steps.{step_is_deeds_lem}
use Rattle.ring_refinement.proofs.laws.each_step_is_deeds.Goals as goal

pub returns : goal.returns
returns c = step_is_deeds_lem
