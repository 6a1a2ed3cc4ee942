use Rattle.cold_start.proofs.Example.{two_hold_lem}
use Rattle.cold_start.proofs.laws.two_hold_where_one_runs_on.Goals as goal

pub returns : goal.returns
returns c = two_hold_lem
