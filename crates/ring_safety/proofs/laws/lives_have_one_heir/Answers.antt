use Rattle.ring_safety.proofs.Safe.{lives_one_heir_lem}
use Rattle.ring_safety.proofs.laws.lives_have_one_heir.Goals as goal

pub returns : goal.returns
returns g c = lives_one_heir_lem g.A.Above.upper g.A.Above.stays
