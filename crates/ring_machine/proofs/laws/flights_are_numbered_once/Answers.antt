use Rattle.ring_machine.proofs.LawProofs.{numbered_once_lem}
use Rattle.ring_machine.proofs.laws.flights_are_numbered_once.Goals as goal

pub returns : goal.returns
returns c = numbered_once_lem
