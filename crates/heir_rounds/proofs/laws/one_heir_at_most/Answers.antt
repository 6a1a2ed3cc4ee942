use Rattle.heir_rounds.proofs.Heirs.{one_heir}
use Rattle.heir_rounds.proofs.laws.one_heir_at_most.Goals as goal

pub returns : goal.returns
returns c = one_heir
