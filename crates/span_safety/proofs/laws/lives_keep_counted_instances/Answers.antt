use Rattle.span_safety.proofs.Counting.{lives_stay_counted}
use Rattle.span_safety.proofs.laws.lives_keep_counted_instances.Goals as goal

pub returns : goal.returns
returns g c = lives_stay_counted g.A.Above.upper g.A.Above.stays
