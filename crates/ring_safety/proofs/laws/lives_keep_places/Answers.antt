use Rattle.ring_safety.proofs.Safe.{lives_keep_places_lem}
use Rattle.ring_safety.proofs.laws.lives_keep_places.Goals as goal

pub returns : goal.returns
returns g c = lives_keep_places_lem g.A.Above.upper g.A.Above.stays
