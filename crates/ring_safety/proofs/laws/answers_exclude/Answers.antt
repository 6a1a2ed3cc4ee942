use Rattle.ring_safety.proofs.Safe.{answers_exclude_lem}
use Rattle.ring_safety.proofs.laws.answers_exclude.Goals as goal

pub returns : goal.returns
returns g c = answers_exclude_lem g.A.Above.upper g.A.Above.stays
