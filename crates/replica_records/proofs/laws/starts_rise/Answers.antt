use Rattle.replica_records.proofs.Starting.{starts_rise_lem}
use Rattle.replica_records.proofs.laws.starts_rise.Goals as goal

pub returns : goal.returns
returns c = starts_rise_lem
