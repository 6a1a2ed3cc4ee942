use Rattle.span_safety.proofs.Counting.{runs_stay_counted}
use Rattle.span_safety.proofs.laws.counted_instances_stay.Goals as goal

pub returns : goal.returns
returns g c = runs_stay_counted g.A.Above.upper g.A.Above.stays
