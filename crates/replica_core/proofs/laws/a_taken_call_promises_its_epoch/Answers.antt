use Rattle.replica_core.proofs.Taken.{promising}
use Rattle.replica_core.proofs.laws.a_taken_call_promises_its_epoch.Goals as goal

pub returns : goal.returns
returns c = promising
