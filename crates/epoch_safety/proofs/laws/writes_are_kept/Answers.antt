use Rattle.epoch_safety.proofs.Written.{writes_kept_lem}
use Rattle.epoch_safety.proofs.laws.writes_are_kept.Goals as goal

pub returns : goal.returns
returns c = writes_kept_lem
