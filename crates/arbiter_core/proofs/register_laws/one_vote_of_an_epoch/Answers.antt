use Rattle.arbiter_core.proofs.Votes.{one_vote}
use Rattle.arbiter_core.proofs.register_laws.one_vote_of_an_epoch.Goals as goal

pub returns : goal.returns
returns c = one_vote
