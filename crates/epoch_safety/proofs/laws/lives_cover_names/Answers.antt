use Rattle.epoch_safety.proofs.Naming.{lives_cover_names_lem}
use Rattle.epoch_safety.proofs.laws.lives_cover_names.Goals as goal

pub returns : goal.returns
returns c = lives_cover_names_lem
