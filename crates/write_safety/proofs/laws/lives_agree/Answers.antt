use Rattle.write_safety.proofs.Agreed.{lives_agree_lem}
use Rattle.write_safety.proofs.laws.lives_agree.Goals as goal

pub returns : goal.returns
returns c = lives_agree_lem
