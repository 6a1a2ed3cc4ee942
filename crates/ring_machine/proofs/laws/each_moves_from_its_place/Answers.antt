use Rattle.ring_machine.proofs.LawProofs.{each_moves_lem}
use Rattle.ring_machine.proofs.laws.each_moves_from_its_place.Goals as goal

pub returns : goal.returns
returns c = each_moves_lem
