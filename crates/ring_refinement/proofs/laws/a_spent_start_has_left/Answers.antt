use Rattle.ring_refinement.proofs.Starting.{spent_is_left_lem}
use Rattle.ring_refinement.proofs.laws.a_spent_start_has_left.Goals as goal

pub returns : goal.returns
returns c = spent_is_left_lem
