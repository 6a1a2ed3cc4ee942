use Rattle.ring_safety.proofs.Safe.{ring_is_safe_lem}
use Rattle.ring_safety.proofs.laws.ring_is_safe.Goals as goal

pub returns : goal.returns
returns g c = ring_is_safe_lem g.A.Above.upper g.A.Above.stays
