use Rattle.ring_machine.proofs.LawProofs.{exclusion_lem}
use Rattle.ring_machine.proofs.laws.arbitrators_exclude.Goals as goal

pub returns : goal.returns
returns c = exclusion_lem
