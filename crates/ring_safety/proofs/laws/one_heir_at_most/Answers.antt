use Rattle.ring_safety.proofs.Safe.{one_heir_lem}
use Rattle.ring_safety.proofs.laws.one_heir_at_most.Goals as goal

pub returns : goal.returns
returns g c = one_heir_lem g.A.Above.upper g.A.Above.stays
