use Rattle.span_safety.proofs.Counting.{lives_hold_counted}
use Rattle.span_safety.proofs.laws.lives_hold_counted_points.Goals as goal

pub returns : goal.returns
returns g c = lives_hold_counted g.A.Above.upper g.A.Above.stays
