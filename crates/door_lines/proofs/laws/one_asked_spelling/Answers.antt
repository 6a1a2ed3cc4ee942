use Rattle.door_lines.proofs.AskedLaws.{asked_found, asked_again}
use Rattle.door_lines.proofs.laws.one_asked_spelling.Goals as goal

pub returns-clause-read : goal.returns-clause-read
returns-clause-read c = asked_found

pub returns-clause-spelled : goal.returns-clause-spelled
returns-clause-spelled c = asked_again
