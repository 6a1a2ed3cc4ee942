use Rattle.span_safety.proofs.Counting.{runs_hold_counted}
use Rattle.span_safety.proofs.laws.counted_points_are_held.Goals as goal

pub returns : goal.returns
returns g c = runs_hold_counted g.A.Above.upper g.A.Above.stays
