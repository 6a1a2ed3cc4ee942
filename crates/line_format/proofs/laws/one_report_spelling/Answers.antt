use Rattle.line_format.proofs.ReportLaws.{line_found, line_again}
use Rattle.line_format.proofs.laws.one_report_spelling.Goals as goal

pub returns-clause-read : goal.returns-clause-read
returns-clause-read c = line_found

pub returns-clause-spelled : goal.returns-clause-spelled
returns-clause-spelled c = line_again
