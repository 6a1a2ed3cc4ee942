use Rattle.ring_refinement.proofs.Starting.{start_is_shown_lem}
use Rattle.ring_refinement.proofs.laws.a_start_is_shown.Goals as goal

pub returns : goal.returns
returns c = start_is_shown_lem
