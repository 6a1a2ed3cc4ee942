use Rattle.replica_records.proofs.Stepping.{steps_lem}
use Rattle.replica_records.proofs.laws.steps_are_kept.Goals as goal

pub returns : goal.returns
returns c = steps_lem
