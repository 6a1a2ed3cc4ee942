use Rattle.epoch_refinement.proofs.Beginning.{beginnings_lem}
use Rattle.epoch_refinement.proofs.laws.beginnings_are_shown.Goals as goal

pub returns : goal.returns
returns c = beginnings_lem
