use Rattle.arbiter_core.proofs.Rounds.{settled_again}
use Rattle.arbiter_core.proofs.Rulings.{ruling_again}
use Rattle.arbiter_core.proofs.laws.the_same_question_gets_the_same_ruling.Goals as goal

pub returns-clause-rulings : goal.returns-clause-rulings
returns-clause-rulings c = ruling_again

pub returns-clause-rounds : goal.returns-clause-rounds
returns-clause-rounds c = settled_again
