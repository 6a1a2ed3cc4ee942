use Rattle.state_lines.proofs.KeptTimes.{kept_times}
use Rattle.state_lines.proofs.laws.changes_keep_their_time.Goals as goal

pub returns : goal.returns
returns c = kept_times
