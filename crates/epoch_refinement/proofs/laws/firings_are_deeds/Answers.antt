use Rattle.epoch_refinement.proofs.Rows.{firings_are_deeds_lem}
use Rattle.epoch_refinement.proofs.laws.firings_are_deeds.Goals as goal

pub returns : goal.returns
returns c = firings_are_deeds_lem
