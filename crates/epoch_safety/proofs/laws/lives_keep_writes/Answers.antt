use Rattle.epoch_safety.proofs.Written.{lives_keep_writes_lem}
use Rattle.epoch_safety.proofs.laws.lives_keep_writes.Goals as goal

pub returns : goal.returns
returns c = lives_keep_writes_lem
