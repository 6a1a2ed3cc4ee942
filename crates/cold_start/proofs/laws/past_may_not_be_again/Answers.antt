use Rattle.cold_start.proofs.Begins.{past_may_not_lem}
use Rattle.cold_start.proofs.laws.past_may_not_be_again.Goals as goal

pub returns : goal.returns
returns g c = past_may_not_lem g.A.Above.upper
