use Rattle.replica_core.proofs.Risen.{only_growing}
use Rattle.replica_core.proofs.laws.the_log_of_an_epoch_only_grows.Goals as goal

pub returns : goal.returns
returns c = only_growing
