use Rattle.arbiter_core.proofs.Keeping.{kept_for_good}
use Rattle.arbiter_core.proofs.laws.what_is_kept_stays.Goals as goal

pub returns : goal.returns
returns c = kept_for_good
