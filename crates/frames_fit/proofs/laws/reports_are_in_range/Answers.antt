use Rattle.frames_fit.proofs.Valid.{reports_in_range}
use Rattle.frames_fit.proofs.laws.reports_are_in_range.Goals as goal

pub returns : goal.returns
returns g c = reports_in_range g.A.InFormat.upper g.A.InFormat.sends
