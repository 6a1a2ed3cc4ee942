use Rattle.ring_route.proofs.Chains.{chain_meets_none_twice}
use Rattle.ring_route.proofs.laws.chains_end.Goals as goal

pub returns : goal.returns
returns c = chain_meets_none_twice
