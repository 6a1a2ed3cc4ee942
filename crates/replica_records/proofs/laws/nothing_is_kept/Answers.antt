use Rattle.replica_records.proofs.Begun.{nothing_lem}
use Rattle.replica_records.proofs.laws.nothing_is_kept.Goals as goal

pub returns : goal.returns
returns c = nothing_lem
