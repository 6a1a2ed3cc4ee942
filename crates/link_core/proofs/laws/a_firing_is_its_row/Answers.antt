use Rattle.link_core.proofs.FiringTies.{firing_tie}
use Rattle.link_core.proofs.laws.a_firing_is_its_row.Goals as goal

pub returns : goal.returns
returns c = firing_tie
