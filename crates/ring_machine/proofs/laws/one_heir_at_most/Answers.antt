use Rattle.ring_machine.proofs.LawProofs.{uniqueness_lem}
use Rattle.ring_machine.proofs.laws.one_heir_at_most.Goals as goal

pub returns : goal.returns
returns c = uniqueness_lem
