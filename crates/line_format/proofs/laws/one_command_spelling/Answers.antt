use Rattle.line_format.proofs.CommandLaws.{command_found, command_again}
use Rattle.line_format.proofs.laws.one_command_spelling.Goals as goal

pub returns-clause-read : goal.returns-clause-read
returns-clause-read c = command_found

pub returns-clause-spelled : goal.returns-clause-spelled
returns-clause-spelled c = command_again
