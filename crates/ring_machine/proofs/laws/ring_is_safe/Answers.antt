use Rattle.ring_machine.proofs.LawProofs.{ring_safe_lem}
use Rattle.ring_machine.proofs.laws.ring_is_safe.Goals as goal

pub returns : goal.returns
returns c = ring_safe_lem
