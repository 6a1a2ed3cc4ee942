use Rattle.replica_records.proofs.Starting.{starts_kept_lem}
use Rattle.replica_records.proofs.laws.starts_are_kept.Goals as goal

pub returns : goal.returns
returns c = starts_kept_lem
