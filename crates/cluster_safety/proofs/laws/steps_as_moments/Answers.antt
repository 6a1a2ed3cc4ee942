use Rattle.std.proofs.Common.{refl}
use Rattle.cluster_safety.proofs.laws.steps_as_moments.Goals as goal

pub returns : goal.returns
returns c = λ b. refl
