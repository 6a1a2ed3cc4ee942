use Rattle.epoch_refinement.proofs.Rows.{writes_are_deeds_lem}
use Rattle.epoch_refinement.proofs.laws.writes_are_deeds.Goals as goal

pub returns : goal.returns
returns c = writes_are_deeds_lem
