use Rattle.write_safety.proofs.Agreed.{commits_agree_lem}
use Rattle.write_safety.proofs.laws.commits_agree.Goals as goal

pub returns : goal.returns
returns c = commits_agree_lem
