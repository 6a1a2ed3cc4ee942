use Rattle.span_safety.proofs.FenceSteps.{steps_keep}
use Rattle.span_safety.proofs.laws.steps_keep_fences.Goals as goal

pub returns : goal.returns
returns c = steps_keep
