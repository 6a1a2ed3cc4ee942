use Rattle.write_safety.proofs.Standing.{logs_beside_lem}
use Rattle.write_safety.proofs.laws.logs_stand_beside.Goals as goal

pub returns : goal.returns
returns c = logs_beside_lem
