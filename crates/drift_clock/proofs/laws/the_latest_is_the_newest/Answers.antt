use Rattle.drift_clock.proofs.Kept.{latest_is}
use Rattle.drift_clock.proofs.laws.the_latest_is_the_newest.Goals as goal

pub returns : goal.returns
returns c = latest_is
