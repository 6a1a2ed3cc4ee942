use Rattle.run_facts.proofs.Orderly.{leave_is_told_lem}
use Rattle.run_facts.proofs.laws.leave_is_told.Goals as goal

pub returns : goal.returns
returns g c = leave_is_told_lem g.A.Above.upper g.A.Above.stays
