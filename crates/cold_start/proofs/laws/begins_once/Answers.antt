use Rattle.cold_start.proofs.Begins.{begins_once_lem}
use Rattle.cold_start.proofs.laws.begins_once.Goals as goal

pub returns : goal.returns
returns g c = begins_once_lem g.A.Above.upper
