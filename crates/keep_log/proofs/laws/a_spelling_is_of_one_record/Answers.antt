use Rattle.keep_log.proofs.Spelled.{one_spelling}
use Rattle.keep_log.proofs.laws.a_spelling_is_of_one_record.Goals as goal

pub returns : goal.returns
returns c = one_spelling
