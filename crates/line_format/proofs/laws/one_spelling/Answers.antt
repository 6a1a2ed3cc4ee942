use Rattle.line_format.proofs.LineLaws.{read_is_spelled, spelled_is_read}
use Rattle.line_format.proofs.laws.one_spelling.Goals as goal

pub returns-clause-read : goal.returns-clause-read
returns-clause-read c = read_is_spelled

pub returns-clause-spelled : goal.returns-clause-spelled
returns-clause-spelled c = spelled_is_read
