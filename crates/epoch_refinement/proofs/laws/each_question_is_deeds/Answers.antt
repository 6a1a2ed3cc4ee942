use Rattle.epoch_refinement.proofs.Arbitrating.{questions_are_deeds_lem}
use Rattle.epoch_refinement.proofs.laws.each_question_is_deeds.Goals as goal

pub returns : goal.returns
returns c = questions_are_deeds_lem
