use Rattle.replica_core.proofs.Risen.{staying_behind}
use Rattle.replica_core.proofs.laws.no_log_is_ahead_of_the_promise.Goals as goal

pub returns : goal.returns
returns c = staying_behind
