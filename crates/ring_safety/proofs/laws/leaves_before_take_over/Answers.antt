use Rattle.ring_safety.proofs.Safe.{leaves_before_take_over_lem}
use Rattle.ring_safety.proofs.laws.leaves_before_take_over.Goals as goal

pub returns : goal.returns
returns g c = leaves_before_take_over_lem g.A.Above.upper g.A.Above.stays
