use Rattle.arbiter_quorum.proofs.Majorities.{two_majorities}
use Rattle.arbiter_quorum.proofs.laws.majorities_meet.Goals as goal

pub returns : goal.returns
returns c = two_majorities
