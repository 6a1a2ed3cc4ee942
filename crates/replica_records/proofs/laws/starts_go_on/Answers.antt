use Rattle.replica_records.proofs.Starting.{go_on_lem}
use Rattle.replica_records.proofs.laws.starts_go_on.Goals as goal

pub returns : goal.returns
returns c = go_on_lem
