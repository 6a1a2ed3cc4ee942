use Rattle.ring_machine.proofs.LawProofs.{taken_after_leave_lem}
use Rattle.ring_machine.proofs.laws.taken_after_leave.Goals as goal

pub returns : goal.returns
returns c = taken_after_leave_lem
