use Rattle.epoch_safety.proofs.Primaries.{one_primary_lem}
use Rattle.epoch_safety.proofs.laws.runs_have_one_primary.Goals as goal

pub returns : goal.returns
returns c = one_primary_lem
