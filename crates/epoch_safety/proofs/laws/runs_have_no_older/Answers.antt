use Rattle.epoch_safety.proofs.Primaries.{no_older_lem}
use Rattle.epoch_safety.proofs.laws.runs_have_no_older.Goals as goal

pub returns : goal.returns
returns c = no_older_lem
