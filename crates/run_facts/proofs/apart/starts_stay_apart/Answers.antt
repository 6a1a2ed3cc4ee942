use Rattle.run_facts.proofs.ApartSteps.{starts_apart_lem}
use Rattle.run_facts.proofs.apart.starts_stay_apart.Goals as goal

pub returns : goal.returns
returns c = starts_apart_lem
