use Rattle.epoch_refinement.proofs.Rows.{restarts_are_deeds_lem}
use Rattle.epoch_refinement.proofs.laws.restarts_are_deeds.Goals as goal

pub returns : goal.returns
returns c = restarts_are_deeds_lem
