use Rattle.run_facts.proofs.ApartSteps.{steps_apart_lem}
use Rattle.run_facts.proofs.apart.steps_stay_apart.Goals as goal

pub returns : goal.returns
returns c = steps_apart_lem
