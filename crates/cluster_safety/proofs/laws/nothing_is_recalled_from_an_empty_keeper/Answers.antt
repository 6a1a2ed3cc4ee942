use Rattle.cluster_safety.proofs.Recalling.{nothing_recalled}
use Rattle.cluster_safety.proofs.laws.nothing_is_recalled_from_an_empty_keeper.Goals as goal

pub returns : goal.returns
returns c = nothing_recalled
