use Rattle.epoch_refinement.proofs.Rows.{frames_are_deeds_lem}
use Rattle.epoch_refinement.proofs.laws.frames_are_deeds.Goals as goal

pub returns : goal.returns
returns c = frames_are_deeds_lem
