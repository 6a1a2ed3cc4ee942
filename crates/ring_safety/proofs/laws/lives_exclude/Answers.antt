use Rattle.ring_safety.proofs.Safe.{lives_exclude_lem}
use Rattle.ring_safety.proofs.laws.lives_exclude.Goals as goal

pub returns : goal.returns
returns g c = lives_exclude_lem g.A.Above.upper g.A.Above.stays
