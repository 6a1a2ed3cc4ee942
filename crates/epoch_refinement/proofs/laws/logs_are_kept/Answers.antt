use Rattle.epoch_refinement.proofs.Kept.{logs_lem}
use Rattle.epoch_refinement.proofs.laws.logs_are_kept.Goals as goal

pub returns : goal.returns
returns c = logs_lem
