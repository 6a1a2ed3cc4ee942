use Rattle.span_safety.proofs.Held.{runs_hold_promised}
use Rattle.span_safety.proofs.laws.promised_points_are_held.Goals as goal

pub returns : goal.returns
returns g c = runs_hold_promised g.A.Above.upper g.A.Above.stays
