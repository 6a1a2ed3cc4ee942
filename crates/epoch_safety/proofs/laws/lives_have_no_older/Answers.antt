use Rattle.epoch_safety.proofs.Primaries.{lives_no_older_lem}
use Rattle.epoch_safety.proofs.laws.lives_have_no_older.Goals as goal

pub returns : goal.returns
returns c = lives_no_older_lem
