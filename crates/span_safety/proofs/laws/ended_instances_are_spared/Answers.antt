use Rattle.span_safety.proofs.Counting.{spared_counted}
use Rattle.span_safety.proofs.laws.ended_instances_are_spared.Goals as goal

pub returns : goal.returns
returns g c = spared_counted g.A.Above.upper g.A.Above.stays
