use Rattle.replica_core.proofs.Taken.{no_older_entry}
use Rattle.replica_core.proofs.laws.no_accepted_entry_is_older.Goals as goal

pub returns : goal.returns
returns c = no_older_entry
