use Rattle.cold_start.proofs.Begins.{one_life_lem}
use Rattle.cold_start.proofs.laws.one_life_is_a_schedule.Goals as goal

pub returns : goal.returns
returns g c = one_life_lem g.A.Above.upper
