use Rattle.replica_core.proofs.Risen.{never_falling}
use Rattle.replica_core.proofs.laws.the_promised_epoch_never_falls.Goals as goal

pub returns : goal.returns
returns c = never_falling
