use Rattle.ring_machine.proofs.LawProofs.{owns_its_places_lem}
use Rattle.ring_machine.proofs.laws.owns_its_places.Goals as goal

pub returns : goal.returns
returns c = owns_its_places_lem
