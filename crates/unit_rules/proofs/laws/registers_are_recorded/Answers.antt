use Rattle.unit_rules.proofs.Registered.{registers_are_recorded}
use Rattle.unit_rules.proofs.laws.registers_are_recorded.Goals as goal

pub returns : goal.returns
returns c = registers_are_recorded
