use Rattle.epoch_safety.proofs.Naming.{names_covered_lem}
use Rattle.epoch_safety.proofs.laws.names_are_covered.Goals as goal

pub returns : goal.returns
returns c = names_covered_lem
