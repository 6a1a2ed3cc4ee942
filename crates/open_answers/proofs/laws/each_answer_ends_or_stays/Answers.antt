use Rattle.open_answers.proofs.EndedAnswers.{ends_or_stays}
use Rattle.open_answers.proofs.laws.each_answer_ends_or_stays.Goals as goal

pub returns : goal.returns
returns c = ends_or_stays
