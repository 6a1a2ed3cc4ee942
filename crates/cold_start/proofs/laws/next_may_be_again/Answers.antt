use Rattle.cold_start.proofs.Begins.{next_may_lem}
use Rattle.cold_start.proofs.laws.next_may_be_again.Goals as goal

pub returns : goal.returns
returns g c = next_may_lem g.A.Above.upper
