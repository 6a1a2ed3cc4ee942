use Rattle.epoch_refinement.proofs.Managing.{commands_lem}
use Rattle.epoch_refinement.proofs.laws.commands_are_deeds.Goals as goal

pub returns : goal.returns
returns c = commands_lem
