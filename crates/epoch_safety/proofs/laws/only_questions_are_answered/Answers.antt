use Rattle.epoch_safety.proofs.Unasked.{only_questions_lem}
use Rattle.epoch_safety.proofs.laws.only_questions_are_answered.Goals as goal

pub returns : goal.returns
returns c = only_questions_lem
