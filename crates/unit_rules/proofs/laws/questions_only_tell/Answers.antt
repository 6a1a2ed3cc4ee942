use Rattle.unit_rules.proofs.Answered.{names_only_answer, resolve_only_answers}
use Rattle.unit_rules.proofs.laws.questions_only_tell.Goals as goal

pub returns : goal.returns
returns c = λ s. (λ name. resolve_only_answers name s, λ range. names_only_answer range s)
