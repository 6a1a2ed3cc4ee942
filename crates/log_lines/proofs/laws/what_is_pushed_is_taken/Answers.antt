use Rattle.log_lines.proofs.Goes.{push_keeps, take_keeps}
use Rattle.log_lines.proofs.laws.what_is_pushed_is_taken.Goals as goal

pub returns-clause-push : goal.returns-clause-push
returns-clause-push c = push_keeps

pub returns-clause-taken : goal.returns-clause-taken
returns-clause-taken c = take_keeps
