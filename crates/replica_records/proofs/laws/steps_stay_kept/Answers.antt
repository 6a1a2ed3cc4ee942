use Rattle.replica_records.proofs.Exactly.{stay_lem}
use Rattle.replica_records.proofs.laws.steps_stay_kept.Goals as goal

pub returns : goal.returns
returns c = stay_lem
