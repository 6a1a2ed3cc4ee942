use Rattle.epoch_refinement.proofs.Rows.{answers_are_deeds_lem}
use Rattle.epoch_refinement.proofs.laws.answers_are_deeds.Goals as goal

pub returns : goal.returns
returns c = answers_are_deeds_lem
