use Rattle.replica_records.proofs.Begun.{begin_again_lem}
use Rattle.replica_records.proofs.laws.starts_begin_again.Goals as goal

pub returns : goal.returns
returns c = begin_again_lem
