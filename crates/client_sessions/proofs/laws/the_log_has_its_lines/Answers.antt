use Rattle.client_sessions.proofs.Logging.{the_log_has}
use Rattle.client_sessions.proofs.laws.the_log_has_its_lines.Goals as goal

pub returns : goal.returns
returns c = the_log_has
