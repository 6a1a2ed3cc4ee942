use Rattle.epoch_refinement.proofs.Kept.{start_lem}
use Rattle.epoch_refinement.proofs.laws.starts_are_deeds.Goals as goal

pub returns : goal.returns
returns c = start_lem
