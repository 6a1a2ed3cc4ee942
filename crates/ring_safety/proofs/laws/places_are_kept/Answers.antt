use Rattle.ring_safety.proofs.Safe.{places_are_kept_lem}
use Rattle.ring_safety.proofs.laws.places_are_kept.Goals as goal

pub returns : goal.returns
returns g c = places_are_kept_lem g.A.Above.upper g.A.Above.stays
