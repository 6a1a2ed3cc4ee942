use Rattle.replica_records.proofs.Begun.{states_lem}
use Rattle.replica_records.proofs.laws.states_are_kept.Goals as goal

pub returns : goal.returns
returns c = states_lem
