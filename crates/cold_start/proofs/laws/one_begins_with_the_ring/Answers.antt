use Rattle.cold_start.proofs.Begins.{one_begins_lem}
use Rattle.cold_start.proofs.laws.one_begins_with_the_ring.Goals as goal

pub returns : goal.returns
returns g c = one_begins_lem g.A.Above.upper
