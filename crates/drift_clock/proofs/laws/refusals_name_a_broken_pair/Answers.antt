use Rattle.drift_clock.proofs.Named.{named}
use Rattle.drift_clock.proofs.laws.refusals_name_a_broken_pair.Goals as goal

pub returns : goal.returns
returns c = named
