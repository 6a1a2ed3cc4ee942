use Rattle.ring_safety.proofs.Safe.{lives_are_safe_lem}
use Rattle.ring_safety.proofs.laws.lives_are_safe.Goals as goal

pub returns : goal.returns
returns g c = lives_are_safe_lem g.A.Above.upper g.A.Above.stays
