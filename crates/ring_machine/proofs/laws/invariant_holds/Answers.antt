use Rattle.ring_machine.proofs.LawProofs.{invariant_holds_lem}
use Rattle.ring_machine.proofs.laws.invariant_holds.Goals as goal

pub returns : goal.returns
returns c = invariant_holds_lem
