use Rattle.ring_safety.proofs.Safe.{lives_leave_lem}
use Rattle.ring_safety.proofs.laws.lives_leave_before_take_over.Goals as goal

pub returns : goal.returns
returns g c = lives_leave_lem g.A.Above.upper g.A.Above.stays
