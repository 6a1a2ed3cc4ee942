use Rattle.drift_clock.proofs.Waits.{waits_cover}
use Rattle.drift_clock.proofs.laws.wait_covers.Goals as goal

pub returns : goal.returns
returns c = waits_cover
