use Rattle.span_safety.proofs.Held.{lives_hold_promised}
use Rattle.span_safety.proofs.laws.lives_hold_promised_points.Goals as goal

pub returns : goal.returns
returns g c = lives_hold_promised g.A.Above.upper g.A.Above.stays
