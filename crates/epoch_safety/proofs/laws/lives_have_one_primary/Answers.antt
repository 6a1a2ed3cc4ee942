use Rattle.epoch_safety.proofs.Primaries.{lives_one_primary_lem}
use Rattle.epoch_safety.proofs.laws.lives_have_one_primary.Goals as goal

pub returns : goal.returns
returns c = lives_one_primary_lem
