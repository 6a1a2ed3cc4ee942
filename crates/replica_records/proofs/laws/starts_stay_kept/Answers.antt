use Rattle.replica_records.proofs.Begun.{starts_stay_lem}
use Rattle.replica_records.proofs.laws.starts_stay_kept.Goals as goal

pub returns : goal.returns
returns c = starts_stay_lem
